-- What a row of the table stands for.
use Rattle.std.specs.Prelude.{ℕ, List, ◌∷◌, map, string_bytes}
use Rattle.std.specs.Option.{option_to_list}
use Rattle.standard.specs.Entities.{Entity, Entities}
use Rattle.entity_table.specs.declared.prepared.Entry.{Entry}
use Rattle.entity_table.specs.declared.row.Characters.{Characters}
use Rattle.entity_table.specs.declared.row.Row.{Row}

abbrev pub characters_in : Characters → List ℕ
characters_in c = c.first ∷ option_to_list c.second

abbrev pub entity_in : Row → Entity
entity_in r = record { name = string_bytes r.name; characters = characters_in r.characters }

abbrev pub rows_in : List Row → Entities
rows_in rows = map entity_in rows

-- the same of what was read of prepared bytes
abbrev pub entity_read : Entry → Entity
entity_read e = record { name = e.name.now; characters = characters_in e.characters }
