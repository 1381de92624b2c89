use Rattle.core_steps.specs.Sides.{first_shown}
use Rattle.core_steps.proofs.Kept.{first-replayed}
use Rattle.core_steps.proofs.DocSides.{kept-then}
use Rattle.core_steps.proofs.doc_side.DocSide.new.Goals as goal

pub invariant_of-result : goal.invariant_of-result
invariant_of-result c =
    kept-then c.in_ok-side.side c.of-before.result.value (first_shown c.args.table.now c.args.ahead) c.in_ok-side.ensures.sound c.in_ok-side.ensures.first (first-replayed c.args.table.now c.args.ahead)
