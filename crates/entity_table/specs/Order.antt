-- The names of a table.
use Rattle.std.specs.Prelude.{◌≡◌, ℕ, List, map, Bool, true, Option}
use Rattle.std.specs.Ordering.{nat_cmp, is_lt}
use Rattle.std.specs.Cmp.Lexicographic.{slice_cmp}
use Rattle.std.specs.List.{list_all, find}
use Rattle.std.specs.Str.{bytes_eq}
use Rattle.std.specs.List.Sorted.{IsStrictlySortedBy}
use Rattle.standard.specs.Entities.{Entity, Entities, is_name}

abbrev pub names_of : Entities → List (List ℕ)
names_of es = map (λ (e : Entity). e.name) es

-- each name is below those after it
abbrev pub AreInOrder : List (List ℕ) → Type 0
AreInOrder names = IsStrictlySortedBy (slice_cmp nat_cmp) names

-- n is below the name
abbrev pub precedes : List ℕ → List ℕ → Bool
precedes name n = is_lt (slice_cmp nat_cmp n name)

-- the entity of that name
abbrev pub entity_named : List ℕ → Entities → Option Entity
entity_named name es = find (λ (e : Entity). bytes_eq e.name name) es

pub record AreNames (names : List (List ℕ)) : Type 0 where
  pub order : AreInOrder names
  pub named : list_all is_name names ≡ true
