use Rattle.std.proofs.Common.{length}
use Rattle.speculation.proofs.Cuts.{IsLeft}
use Rattle.speculation.proofs.cutting.cut_text.Given as goal

abbrev pub invariant-cuts : goal.invariant-cuts
invariant-cuts l = IsLeft l.table l.batches l.machine l.rest l.fn.batches l.fn.machine l.fn.text

abbrev pub decreases-cuts : goal.decreases-cuts
decreases-cuts l = length l.rest
