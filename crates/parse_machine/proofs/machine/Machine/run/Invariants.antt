use Rattle.std.proofs.Common.{◌-◌, length, take}
use Rattle.std.specs.Str.{chars, IsCharBoundary}
use Rattle.html_types.specs.declared.instruction.Stop.TheVariants.{InputEnd}
use Rattle.standard.specs.Parser.{parse}
use Rattle.parse_machine.proofs.MachineLemmas.{IsOver}
use Rattle.parse_machine.proofs.machine.Machine.run.Given as goal

abbrev pub invariant-pieces : goal.invariant-pieces
invariant-pieces l = record {
  boundary : IsCharBoundary l.text l.used;
  over : IsOver (parse l.table l.fn.self (chars (take l.used l.text))) l.fn.ops (length (chars (take l.used l.text))) l.self l.ops InputEnd;
}

abbrev pub decreases-pieces : goal.decreases-pieces
decreases-pieces l = length l.text - l.used
