-- Why a batch ends, as the code says it, and the first batch of a text.
use Rattle.std.specs.Prelude.{ℕ, List, take}
use Rattle.standard.specs.Entities.{Entities}
use Rattle.standard.specs.Parser.{Parser, Parsed, parse}
use Rattle.parse_machine.specs.Ends.{result_of}
use Rattle.core_definitions.specs.Batches.{Halt, at, Batch, text_batch, over_with}
use Rattle.speculation.specs.declared.batch.Halt as code
use Rattle.speculation.specs.declared.batch.Halt.TheVariants.{At, Over}

abbrev pub halt_of : code.Halt → Halt
halt_of (At s) = at s
halt_of (Over e) = over_with (result_of e)

-- the batch up to the first stop in a text
abbrev pub first_batch : Entities → Parser → List ℕ → Batch
first_batch es p t = let r : Parsed = parse es p t in text_batch p (take r.used t) r
