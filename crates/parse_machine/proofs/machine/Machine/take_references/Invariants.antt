use Rattle.std.proofs.Common.{◌-◌, ◌≤◌, length}
use Rattle.std.specs.Str.{IsCharBoundary}
use Rattle.parse_machine.specs.Runs.{Ahead}
use Rattle.parse_machine.proofs.machine.Machine.take_references.Given as goal

abbrev pub invariant-loop-behind : goal.invariant-loop-behind
invariant-loop-behind l = record {
  boundary : IsCharBoundary l.text l.end;
  onward : l.from ≤ l.end;
  ahead : Ahead l.table l.text l.from l.end l.fn.self l.fn.ops l.self l.ops;
}

abbrev pub decreases-loop-behind : goal.decreases-loop-behind
decreases-loop-behind l = length l.text - l.end
