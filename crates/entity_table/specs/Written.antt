-- The bytes that a row is written as.
use Rattle.std.specs.Prelude.{ℕ, ◌<◌, ◌^◌, List, [], ◌∷◌, ◌++◌, length, string_bytes, Option, Some, None}
use Rattle.std.specs.Int.{w32, to_le_bytes}
use Rattle.std.specs.Char.{IsScalar}
use Rattle.entity_table.specs.declared.row.Characters.{Characters}
use Rattle.entity_table.specs.declared.row.Row.{Row}

unfoldable pub number_bytes : ℕ → List ℕ
number_bytes n = to_le_bytes w32 n

-- the number of a character, or that of none
abbrev pub number_of : Option ℕ → ℕ
number_of None = 1114112
number_of (Some c) = c

unfoldable pub characters_bytes : Characters → List ℕ
characters_bytes cs = number_bytes cs.first ++ number_bytes (number_of cs.second)

unfoldable pub row_bytes : Row → List ℕ
row_bytes r = number_bytes (length (string_bytes r.name)) ++ (string_bytes r.name ++ characters_bytes r.characters)

abbrev pub IsCharacter : Option ℕ → Type 0
IsCharacter None = Unit {0}
IsCharacter (Some c) = IsScalar c

-- its numbers are those of characters, and the length of its name is one of four bytes
pub record IsWritable (r : Row) : Type 0 where
  pub name : length (string_bytes r.name) < 2 ^ 32
  pub first : IsScalar r.characters.first
  pub second : IsCharacter r.characters.second

abbrev pub AreWritable : List Row → Type 0
AreWritable [] = Unit {0}
AreWritable (r ∷ rows) = IsWritable r × AreWritable rows
