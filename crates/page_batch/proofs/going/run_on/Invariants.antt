use Rattle.core_steps.specs.Sides.{left_to_do}
use Rattle.page_batch.specs.Going.{GoesBy}
use Rattle.page_batch.proofs.going.run_on.Given as goal

abbrev pub invariant-turns : goal.invariant-turns
invariant-turns g l = GoesBy l.table l.initial.pair l.pair l.initial.text.items l.text.items

abbrev pub decreases-turns : goal.decreases-turns
decreases-turns g l = left_to_do l.pair.core.desk
