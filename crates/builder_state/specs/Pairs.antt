-- Attributes told by one text each, so that they are found by it.
use Rattle.std.specs.Prelude.{ℕ, Bool, true, ◌&&◌, List, [], ◌∷◌, ◌++◌, map, flat_map}
use Rattle.html_types.specs.declared.attributes.Attribute.{Attribute}
use Rattle.html_types.specs.Attributes.{has_name}

-- a NUL before each character of the name
abbrev pub marked : List ℕ → List ℕ
marked = flat_map (λ c. 0 ∷ c ∷ [])

-- the name so, U+0001 and the value
abbrev pub pair_text : Attribute → List ℕ
pair_text a = marked a.name ++ 1 ∷ a.value

abbrev pub pairs_of : List Attribute → List Attribute
pairs_of as' = map (λ a. record { name = pair_text a; value = [] }) as'

-- each of the attributes is among those
abbrev pub all_found : List Attribute → List Attribute → Bool
all_found pairs [] = true
all_found pairs (a ∷ as') = has_name (pair_text a) pairs && all_found pairs as'
