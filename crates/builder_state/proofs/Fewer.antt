-- An entry that is taken out of a list that is seen from its end.
use Rattle.std.proofs.Common.{ℕ, ◌≤◌, ◌<◌, ◌≡◌, List, length, reverse, remove, sym, ap, ◌∙◌, arith}
use Rattle.std.proofs.lemmas.List.{length-reverse}
use Rattle.std.proofs.lemmas.List.Edits.{length-remove}

module _ {X : Type 0} where
  pub one_fewer : (xs : List X) (i : ℕ) → i < length xs → length (reverse (remove (reverse xs) i)) ≤ length xs
  one_fewer xs i h =
      omega (arith, length-reverse (remove (reverse xs) i), length-remove (reverse xs) i (omega (arith, h, length-reverse xs)), length-reverse xs)
