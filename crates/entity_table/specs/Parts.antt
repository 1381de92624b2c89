-- The part of a table whose names begin with a text.
use Rattle.std.specs.Prelude.{◌≡◌, ℕ, ◌<◌, ◌≤◌, nat_lt, nat_le, Bool, true, false, List, [], ◌∷◌, length, drop, map, string_bytes}
use Rattle.std.specs.List.{slice_index_or}
use Rattle.standard.specs.Entities.{is_front}
use Rattle.entity_table.specs.declared.row.Row.{Row}

abbrev pub row_names : List Row → List (List ℕ)
row_names rows = map (λ (r : Row). string_bytes r.name) rows

-- what stands in the names from `depth` on
abbrev pub rests : ℕ → List Row → List (List ℕ)
rests depth rows = map (λ (r : Row). drop depth (string_bytes r.name)) rows

-- what follows ends, or goes on below c
abbrev pub is_below : ℕ → List ℕ → Bool
is_below c [] = true
is_below c (x ∷ xs) = nat_lt x c

-- what follows ends, or goes on up to c
abbrev pub is_up_to : ℕ → List ℕ → Bool
is_up_to c [] = true
is_up_to c (x ∷ xs) = nat_le x c

abbrev pub name_at : List (List ℕ) → ℕ → List ℕ
name_at names k = slice_index_or names k []

-- the names that begin with the text are those from `low` up to `high`
pub record IsPart (names : List (List ℕ)) (text : List ℕ) (low high : ℕ) : Type 0 where
  pub ends : low ≤ high
  pub fits : high ≤ length names
  pub before : (k : ℕ) → k < low → is_front text (name_at names k) ≡ false
  pub within : (k : ℕ) → low ≤ k → k < high → is_front text (name_at names k) ≡ true
  pub behind : (k : ℕ) → high ≤ k → k < length names → is_front text (name_at names k) ≡ false
