use Rattle.std.proofs.Common.{◌≡◌, ◌++◌, List, ℕ, length}
use Rattle.serial.specs.Page.{text_of}
use Rattle.core_definitions.specs.Core.{joined}
use Rattle.utf8_pieces.specs.Decoder.{HasRead}
use Rattle.page_turns.specs.declared.page.TheConstants.{PAGE_LIMIT}
use Rattle.page_batch.proofs.pieces.pieces_of.Given as goal

-- what was read and what is left make the page
abbrev pub invariant-pieces : goal.invariant-pieces
invariant-pieces l = record {
  read : List ℕ;
  whole : read ++ l.rest ≡ l.page.bytes.items;
  fed : HasRead PAGE_LIMIT l.decoder read;
  text : joined l.pieces.items ≡ text_of PAGE_LIMIT read;
}

abbrev pub decreases-pieces : goal.decreases-pieces
decreases-pieces l = length l.rest
