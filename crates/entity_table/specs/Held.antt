-- What a cursor holds: the text that was pushed.
use Rattle.std.specs.Prelude.{◌≡◌, ℕ, ◌<◌, List, length, Option}
use Rattle.standard.specs.Entities.{Entity, Entities, longest}
use Rattle.entity_table.specs.Order.{names_of}
use Rattle.entity_table.specs.Parts.{IsPart}
use Rattle.entity_table.specs.Matches.{Tells}
use Rattle.entity_table.specs.declared.cursor.Cursor.{Cursor}
use Rattle.entity_table.specs.declared.cursor.Step.{Step}
use Rattle.entity_table.specs.declared.cursor.Step.TheVariants.{More, Stop}

-- the cursor goes over these entities, and holds the text
pub record Holds (es : Entities) (cursor : Cursor) (text : List ℕ) : Type 0 where
  pub part : IsPart (names_of es) text cursor.part.low cursor.part.high
  pub depth : cursor.part.low < cursor.part.high → cursor.depth ≡ length text
  pub best : Tells (longest text es) cursor.best

-- where the cursor stops, the match tells of what was found
abbrev pub StopTells : Option Entity → Step → Type 0
StopTells found More = Unit {0}
StopTells found (Stop best) = Tells found best
