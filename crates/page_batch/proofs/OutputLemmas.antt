-- What a batch writes, one part behind another.
use Rattle.std.proofs.Common.{ℕ, List, ◌++◌, Option, Some}
use Rattle.page_turns.specs.Taken.{Took, TookFront}
use Rattle.page_turns.proofs.PageTakenLemmas.{took_then, front_then, front_longer}

-- three texts
module _ (t n1 n2 t' : Option (List ℕ)) (a b c : List ℕ) where
  pub took-three : Took t n1 a → Took n1 n2 b → Took n2 t' c → Took t t' (a ++ b ++ c)
  took-three first second third = took_then t n2 t' (a ++ b) c (took_then t n1 n2 a b first second) third

  pub front-third : Took t n1 a → Took n1 n2 b → TookFront n2 t' c → TookFront t t' (a ++ b ++ c)
  front-third first second third = front_then t n2 t' (a ++ b) c (took_then t n1 n2 a b first second) third

pub front-second : (t n1 t' : Option (List ℕ)) (a b c : List ℕ) → Took t n1 a → TookFront n1 t' b → TookFront t t' (a ++ b ++ c)
front-second t n1 t' a b c first second = front_longer t t' (a ++ b) c (front_then t n1 t' a b first second)

pub front-first : (t t' : Option (List ℕ)) (a b c : List ℕ) → TookFront t t' a → TookFront t t' (a ++ b ++ c)
front-first t t' a b c first = front_longer t t' (a ++ b) c (front_longer t t' a b first)
