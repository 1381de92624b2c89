use Rattle.std.proofs.Common.{◌≡◌, ◌≤◌, ◌++◌, List, ℕ, map, length, []}
use Rattle.std.specs.String.{string_bytes}
use Rattle.page_batch.specs.Windows.{RunsWindow}
use Rattle.page_batch.proofs.windows.run_list.Given as goal

abbrev pub invariant-windows : goal.invariant-windows
invariant-windows g l = record {
  done : List (List ℕ);
  is : map string_bytes l.paths ≡ done ++ map string_bytes l.rest;
  ran : RunsWindow g.E.InForce.entities l.dir done (g.F.Outside.seen l.fn.files) (g.F.Outside.seen l.files) [] l.table (g.K.Sink.taken l.fn.out) (g.K.Sink.taken l.out);
  faults : g.K.Sink.faults l.fn.out ≤ g.K.Sink.faults l.out;
}

abbrev pub decreases-windows : goal.decreases-windows
decreases-windows g l = length l.rest
