use Rattle.std.proofs.Common.{sym, subst}
use Rattle.page_batch.specs.Reading.{given_in}
use Rattle.page_batch.specs.Slots.{NextOf}
use Rattle.page_batch.proofs.StageLemmas.{goes-next, stays-next}
use Rattle.page_batch.proofs.slot.Slot.go_on.Goals as goal

pub invariant_of-self : goal.invariant_of-self
invariant_of-self g c =
    let es = g.E.InForce.entities in
    stays-next es c.args.table.now (given_in c.self.inside.file.value) c.self.inside.stage c.replace-stage.result c.replace.new.dest c.replace-stage.ensures.value
    (subst (NextOf es c.args.table.now c.replace-stage.result) (sym c.replace.ensures.after) c.stage_after-next.ensures) c.self.invariant

pub returns : goal.returns
returns g c =
    let es = g.E.InForce.entities in
    goes-next es c.args.table.now c.self.inside.file.value c.self.inside.stage c.replace-stage.result c.replace.new.dest c.args.self.now c.self.view_is c.replace-stage.ensures.value
    (subst (NextOf es c.args.table.now c.replace-stage.result) (sym c.replace.ensures.after) c.stage_after-next.ensures)
