-- Sums of attributes, which their order doesn't change.
use Rattle.std.specs.Prelude.{◌≡◌, ℕ, ◌+◌, ◌*◌, ◌%◌, ◌^◌, Bool, true, ◌&&◌, not, List, [], ◌∷◌, Option, Some, None, fold, sum_by, IsTrue}
use Rattle.std.specs.List.Sorted.{IsPermutation}
use Rattle.html_types.specs.declared.attributes.Attribute.{Attribute}
use Rattle.html_types.specs.Attributes.{has_name}

-- times a number of which the high bits of a product are spread, in 64 bits
abbrev pub spread : ℕ → ℕ
spread n = n * 11400714819323198485 % 2 ^ 64

-- the number of a text, from one that stands for what goes before it
unfoldable pub text_sum : ℕ → List ℕ → ℕ
text_sum start text = fold (λ s c. spread ((s + c) % 2 ^ 64)) start text

-- the number of an attribute
unfoldable pub pair_sum : Attribute → ℕ
pair_sum a = text_sum (spread (text_sum 0 a.name)) a.value

-- no two of them have the same name
abbrev pub are_distinct : List Attribute → Bool
are_distinct [] = true
are_distinct (a ∷ as') = not (has_name a.name as') && are_distinct as'

-- a sum that is there is that of their numbers, and no two have the same name
abbrev pub HasSum : List Attribute → Option ℕ → Type 0
HasSum as' None = Unit {0}
HasSum as' (Some s) = IsTrue (are_distinct as') × (s ≡ sum_by pair_sum as' % 2 ^ 64)

-- neither has a name twice, and they differ in more than their order
abbrev pub AreApart : List Attribute → List Attribute → Type 0
AreApart as' bs = IsTrue (are_distinct as') × IsTrue (are_distinct bs) × ¬ (IsPermutation as' bs)
