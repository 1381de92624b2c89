-- What a sink took, where it tells what it takes.
use Rattle.std.specs.Prelude.{◌≡◌, ℕ, List, ◌++◌, Option, Some, IfSome}

-- this text, and nothing else
abbrev pub Took : Option (List ℕ) → Option (List ℕ) → List ℕ → Type 0
Took before after text = IfSome before (λ old. after ≡ Some (old ++ text))

-- a front of this text
abbrev pub TookFront : Option (List ℕ) → Option (List ℕ) → List ℕ → Type 0
TookFront before after text = IfSome before (λ old. (front : List ℕ) × (rest : List ℕ) × (text ≡ front ++ rest) × (after ≡ Some (old ++ front)))

-- all of the first text, and a front of the second behind it
abbrev pub TookWithFront : Option (List ℕ) → Option (List ℕ) → List ℕ → List ℕ → Type 0
TookWithFront before after first second = IfSome before (λ old. (front : List ℕ) × (rest : List ℕ) × (second ≡ front ++ rest) × (after ≡ Some (old ++ first ++ front)))
