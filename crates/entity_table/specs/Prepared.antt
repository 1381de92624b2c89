-- A table that was prepared once, so that it is read again in a fraction of the time that its file takes. Its bytes are a 1; the number of its
-- names; and for each name, in ascending order, its length, its bytes, and the numbers of its two characters, where 1114112, the number of no
-- character, stands for the second of one alone. Each number is in four bytes, the lowest first.
use Rattle.std.specs.Prelude.{ℕ, zero, suc, ◌==◌, nat_lt, if◌then◌else◌, List, [], ◌∷◌, length, take, drop, Option, Some, None, option_map, option_and_then}
use Rattle.std.specs.Int.{w32, from_le_bytes}
use lib.Utf8.{scalar}
use Rattle.standard.specs.Entities.{Entity, Entities, is_name}
use Rattle.entity_table.specs.Order.{precedes}

infixl 10 ◌>>=◌
abbrev pub ◌>>=◌ : {A B : Type 0} → Option A → (A → Option B) → Option B
o >>= f = option_and_then f o

-- Each of these reads from the front of some bytes, and gives too what stands behind what it read.

-- so many bytes
unfoldable pub take_bytes : ℕ → List ℕ → Option (List ℕ × List ℕ)
take_bytes n bytes = if nat_lt (length bytes) n then None else Some (take n bytes, drop n bytes)

unfoldable pub take_number : List ℕ → Option (ℕ × List ℕ)
take_number bytes = option_map (λ (four : List ℕ × List ℕ). (from_le_bytes w32 four.0, four.1)) (take_bytes 4 bytes)

-- the characters of those numbers
abbrev pub characters_at : ℕ → ℕ → Option (List ℕ)
characters_at first second =
    if scalar first then (if second == 1114112 then Some (first ∷ []) else (if scalar second then Some (first ∷ second ∷ []) else None)) else None

unfoldable pub take_characters : List ℕ → Option (List ℕ × List ℕ)
take_characters bytes = do
  first ← take_number bytes
  second ← take_number first.1
  option_map (λ (cs : List ℕ). (cs, second.1)) (characters_at first.0 second.0)

-- the entity of that name, and of those characters and what stands behind them
abbrev pub entity_with : List ℕ → List ℕ × List ℕ → Option (Entity × List ℕ)
entity_with name points = if is_name name then Some (record { name = name; characters = points.0 }, points.1) else None

unfoldable pub take_entity : List ℕ → Option (Entity × List ℕ)
take_entity bytes = do
  size ← take_number bytes
  name ← take_bytes size.0 size.1
  points ← take_characters name.1
  entity_with name.0 points

-- an entity whose name is above the one before it
unfoldable pub take_above : List ℕ → List ℕ → Option (Entity × List ℕ)
take_above before bytes = do
  next ← take_entity bytes
  if precedes next.0.name before then Some next else None

-- so many entities, each name above the one before it, and nothing behind them
unfoldable pub entities_above : List ℕ → ℕ → List ℕ → Option Entities
entities_above before zero [] = Some []
entities_above before zero (b ∷ bytes) = None
entities_above before (suc n) bytes = do
  next ← take_above before bytes
  option_map (λ (others : Entities). next.0 ∷ others) (entities_above next.0.name n next.1)

-- the 1, and the number of the names
unfoldable pub take_count : List ℕ → Option (ℕ × List ℕ)
take_count [] = None
take_count (form ∷ bytes) = if form == 1 then take_number bytes else None

-- the entities that the bytes list
unfoldable pub loaded : List ℕ → Option Entities
loaded bytes = do
  count ← take_count bytes
  entities_above [] count.0 count.1
