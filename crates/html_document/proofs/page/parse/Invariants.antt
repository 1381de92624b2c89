use Rattle.std.proofs.Common.{◌≡◌, ◌++◌, ℕ, List, length}
use Rattle.html_document.specs.Fed.{HasFed}
use Rattle.html_document.proofs.page.parse.Given as goal

-- what was fed and what is left make the page
abbrev pub invariant-pieces : goal.invariant-pieces
invariant-pieces l = record {
  read : List ℕ;
  fed : HasFed l.table l.parser read;
  whole : read ++ l.rest ≡ l.fn.page;
}

abbrev pub decreases-pieces : goal.decreases-pieces
decreases-pieces l = length l.rest
