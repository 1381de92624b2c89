-- How a page is cut into pieces: each read of it that gives bytes gives one.
use Rattle.std.specs.Prelude.{◌≡◌, ◌<◌, ℕ, ◌+◌, ◌-◌, min, Bool, true, false, List, [], ◌∷◌, ◌++◌, length, Option, Some, None, IfSome, Ok}
use Rattle.html_types.specs.declared.ending.Ending.{Ending}
use Rattle.outside.specs.Outside.{Call, reads, Seen}
use Rattle.outside.specs.declared.traits.Port.TheVariants as port
use Rattle.serial.specs.Page.{text_of}
use Rattle.utf8_pieces.specs.Decoder.{HasRead}
use Rattle.core_definitions.specs.Core.{joined}
use Rattle.core_steps.specs.Sides.{Shown}
use Rattle.page_turns.specs.declared.page.TheConstants.{PAGE_LIMIT}
use Rattle.page_turns.specs.declared.reader.PageReader.{PageReader}
use Rattle.page_turns.specs.Calls.{CallsAt, GaveNone}
use Rattle.page_turns.specs.Pages.{AreTaken}

-- Behind the bytes that were read the call asked for so many bytes at most, or for as many as go to one past the page's limit. It gave this
-- part, and what that adds to the page's text is the piece.
abbrev pub GivesPiece : ℕ → List ℕ → List ℕ → Call → List ℕ → Type 0
GivesPiece most read part call piece =
    (0 < length part) × (call ≡ reads (min most (PAGE_LIMIT + 1 - length read)) (Ok (length part))) × (text_of PAGE_LIMIT (read ++ part) ≡ text_of PAGE_LIMIT read ++ piece)

-- These calls gave these parts, one behind another, and each of them one of these pieces.
abbrev pub AreCut : ℕ → List ℕ → List (List ℕ) → List Call → List (List ℕ) → Type 0
AreCut most read [] [] [] = Unit {0}
AreCut most read (part ∷ parts) (call ∷ calls) (piece ∷ pieces) = GivesPiece most read part call piece × AreCut most (read ++ part) parts calls pieces
AreCut most read _ _ _ = ⊥

-- Behind them no call was made, or a read that gave no byte; or, where memory ran out, one that gave no piece.
abbrev pub IsLast : Bool → List Call → Type 0
IsLast ran_out [] = Unit {0}
IsLast false (reads most answer ∷ []) = GaveNone answer
IsLast true (reads most answer ∷ []) = Unit {0}
IsLast ran_out _ = ⊥

-- From where the page was begun its reads gave these pieces.
pub record IsCut (most : ℕ) (ran_out : Bool) (before after : Seen) (pieces : List (List ℕ)) : Type 0 where
  pub parts : List (List ℕ)
  pub calls : List Call
  pub last : List Call
  pub made : CallsAt port.Page before after (calls ++ last)
  pub is_last : IsLast ran_out last
  pub cut : AreCut most [] parts calls pieces
  pub front : IfSome (before.left port.Page) (λ all. (rest : List ℕ) × (all ≡ joined parts ++ rest))

-- ---- while it is read

pub record IsCutSoFar (most : ℕ) (before now : Seen) (reader : PageReader) (pieces : List (List ℕ)) : Type 0 where
  pub parts : List (List ℕ)
  pub calls : List Call
  pub made : CallsAt port.Page before now calls
  pub cut : AreCut most [] parts calls pieces
  pub taken : AreTaken (before.left port.Page) (now.left port.Page) (joined parts)
  pub decoded : HasRead PAGE_LIMIT reader.decoder (joined parts)
  pub left_is : reader.left + length (joined parts) ≡ PAGE_LIMIT + 1

abbrev pub CutAt : ℕ → Seen → Seen → PageReader → List (List ℕ) → Option Ending → Type 0
CutAt most before now reader pieces None = IsCutSoFar most before now reader pieces
CutAt most before now reader pieces (Some e) = IsCut most false before now pieces

-- From wherever the page stood a read more gave a piece, or the page's ending.
pub record CutsOn (most : ℕ) (now after : Seen) (reader reader' : PageReader) (old new : Shown) : Type 0 where
  pub at : (before : Seen) → IsCutSoFar most before now reader old.journal.pieces → CutAt most before after reader' new.journal.pieces new.journal.ending

-- Memory ran out behind the read, or behind its piece.
pub record CutsShort (most : ℕ) (now after : Seen) (reader : PageReader) (old new : Shown) : Type 0 where
  pub at : (before : Seen) → IsCutSoFar most before now reader old.journal.pieces → IsCut most true before after new.journal.pieces
