-- What a machine that reads a text through comes to, against the definition.
use Rattle.std.specs.Prelude.{ℕ, Bool, true, false, List}
use Rattle.html_types.specs.declared.operation.Op.{Op}
use Rattle.html_types.specs.declared.instruction.Stop.{Stop}
use Rattle.html_types.specs.declared.instruction.Stop.TheVariants as stop
use Rattle.standard.specs.Entities.{Entities}
use Rattle.standard.specs.Parser.{Parser}
use Rattle.standard.specs.Through.{Through, through, deep, after_those, read_through}

-- The parser and the operations behind a text; where it doesn't go on, a push was refused.
abbrev pub came_to : Parser → List Op → Bool → Through
came_to p ops true = through ops p
came_to p ops false = deep

-- what comes of the text that is left at a stop
abbrev pub from_stop : Entities → Parser → List Op → List ℕ → Stop → Through
from_stop es p ops left stop.InputEnd = through ops p
from_stop es p ops left (stop.Script i) = after_those ops (read_through es p left)
from_stop es p ops left stop.Deep = deep
