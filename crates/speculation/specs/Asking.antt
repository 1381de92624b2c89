-- What is asked of the parser's side and what it tells: the core's records, with the place of the text in the page.
use Rattle.std.specs.Prelude.{◌≡◌, ℕ, Option}
use Rattle.standard.specs.Entities.{Entities}
use Rattle.standard.specs.Parser.{Parser}
use Rattle.core_definitions.specs.Batches.{Piece, answer}
use Rattle.core_definitions.specs.Core.{Request, Reply}

-- a page has at most so many characters, each of a byte or more
abbrev pub page_limit : ℕ
page_limit = 1073741824

pub record Asked : Type 0 where
  pub request : Request
  -- so many characters of the page stand before the piece
  pub from : ℕ

pub record Told : Type 0 where
  pub reply : Reply
  -- the state from which its batches were made: none where the parser's side had none any more
  pub start : Option Parser
  pub piece : Piece
  pub from : ℕ

-- its batches are what the parse makes of its own piece from its own start
abbrev pub IsAnswer : Entities → Told → Type 0
IsAnswer es t = t.reply.batches ≡ (answer es t.start t.piece).batches
