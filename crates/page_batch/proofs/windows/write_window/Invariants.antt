use Rattle.std.proofs.Common.{◌≤◌, map, take}
use Rattle.std.specs.String.{string_bytes}
use Rattle.page_batch.specs.Windows.{WritesAll}
use Rattle.page_batch.proofs.windows.write_window.Given as goal

abbrev pub invariant-loop-at : goal.invariant-loop-at
invariant-loop-at g l = record {
  written : WritesAll g.E.InForce.entities (take l.at (map string_bytes l.paths)) (take l.at l.slots) (g.K.Sink.taken l.initial.out) (g.K.Sink.taken l.out);
  faults : g.K.Sink.faults l.initial.out ≤ g.K.Sink.faults l.out;
}
