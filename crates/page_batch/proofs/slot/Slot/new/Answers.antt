use Rattle.std.proofs.Common.{sym, ap, subst}
use Rattle.page_batch.specs.Reading.{given_in}
use Rattle.page_batch.specs.Slots.{IsStage}
use Rattle.page_batch.proofs.slot.Slot.new.Goals as goal

pub invariant_of-result : goal.invariant_of-result
invariant_of-result g c = subst (λ f. IsStage g.E.InForce.entities (given_in f) c.first_stage.result) (sym c.of-kept.ensures) c.first_stage.ensures.stage
