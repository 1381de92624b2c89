use Rattle.std.proofs.Common.{◌≤◌, length}
use Rattle.page_turns.proofs.WriteLemmas.{IsLeft}
use Rattle.page_turns.proofs.write.write_all.Given as goal

abbrev pub invariant-loop-rest : goal.invariant-loop-rest
invariant-loop-rest g l = record {
  took : IsLeft (g.K.Sink.taken l.initial.out) (g.K.Sink.taken l.out) l.bytes l.rest;
  faults : g.K.Sink.faults l.initial.out ≤ g.K.Sink.faults l.out;
}

abbrev pub decreases-loop-rest : goal.decreases-loop-rest
decreases-loop-rest g l = length l.rest
