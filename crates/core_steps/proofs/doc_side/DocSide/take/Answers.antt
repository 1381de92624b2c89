use Rattle.core_definitions.specs.declared.event.Event.TheVariants as event
use Rattle.core_definitions.specs.Desk.{takes}
use Rattle.core_steps.specs.Sides.{Shown, journaled}
use Rattle.core_steps.proofs.Kept.{take-replayed}
use Rattle.core_steps.proofs.DocSides.{kept-behind, kept-refused}
use Rattle.core_steps.proofs.doc_side.DocSide.take.Goals as goal

pub invariant_of-self : goal.invariant_of-self
invariant_of-self g c =
    let i = c.self.inside in
    kept-refused i.side c.take.new.self c.of.result.value i.could c.could-self-inside.result i.before.value i.spent c.if-self.false c.self.invariant c.of.ensures c.in_err-take.ensures.stage c.in_err-take.ensures.journal
    c.could-self-inside.ensures.send c.could-self-inside.ensures.act c.could-self-inside.ensures.take

pub invariant_of-self-2 : goal.invariant_of-self-2
invariant_of-self-2 g c =
    let i = c.self.inside in
    kept-behind i.side i.before.value c.take.new.self c.of.result.value i.spent c.args.self.now (λ (s : Shown). journaled event.Take (takes s.entities s.desk) s) c.if-self.false c.self.view_is c.self.invariant c.in_ok-take.ensures.sound c.in_ok-take.ensures.shown
    (take-replayed c.args.self.now c.requires.wanted)
