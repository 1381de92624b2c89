use Rattle.std.proofs.Common.{◌≤◌}
use Rattle.core_steps.specs.Sides.{left_to_do}
use Rattle.core_pair.specs.Nearer.{steps_to_come}
use Rattle.page_batch.specs.Going.{SamePage}
use Rattle.page_batch.proofs.going.settle.Given as goal

abbrev pub invariant-answers : goal.invariant-answers
invariant-answers g l = record {
  same : SamePage l.initial.pair l.pair;
  left : left_to_do l.pair.core.desk ≤ left_to_do l.initial.pair.core.desk;
}

abbrev pub decreases-answers : goal.decreases-answers
decreases-answers g l = steps_to_come l.pair.core
