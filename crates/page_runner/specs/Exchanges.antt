-- What went through the lanes so far, as the document's side has it.
use Rattle.std.specs.Prelude.{ℕ, List, Option}
use Rattle.speculation.specs.Asking.{Asked, Told}

pub record Exchange : Type 0 where
  -- the requests that were put
  pub asks : List Asked
  -- what was taken: none in place of a reply is the word of want of memory
  pub messages : List (Option Told)
  -- how many were put whose replies weren't taken
  pub under_way : ℕ
