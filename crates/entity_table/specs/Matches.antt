-- What a match says of the name that was found.
use Rattle.std.specs.Prelude.{◌≡◌, length, Option, Some, None}
use Rattle.standard.specs.Entities.{Entity, ends_in_semicolon}
use Rattle.entity_table.specs.View.{characters_in}
use Rattle.entity_table.specs.declared.row.Match.{Match}

pub record IsMatch (e : Entity) (m : Match) : Type 0 where
  pub length_is : m.length ≡ length e.name
  pub semicolon_is : m.ends_in_semicolon ≡ ends_in_semicolon e.name
  pub characters_are : characters_in m.characters ≡ e.characters

-- the match tells of what was found: of no name, or of that name
abbrev pub Tells : Option Entity → Option Match → Type 0
Tells found None = found ≡ None
Tells found (Some m) = (e : Entity) × (found ≡ Some e) × IsMatch e m
