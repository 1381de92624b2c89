use Rattle.core_definitions.specs.declared.event.Event.TheVariants as event
use Rattle.core_definitions.specs.Desk.{sends}
use Rattle.core_steps.specs.Sides.{Shown, journaled}
use Rattle.core_steps.proofs.Kept.{send-replayed}
use Rattle.core_steps.proofs.DocSides.{kept-behind, kept-refused}
use Rattle.core_steps.proofs.doc_side.DocSide.send.Goals as goal

pub invariant_of-self : goal.invariant_of-self
invariant_of-self c =
    let i = c.self.inside in
    kept-refused i.side c.send.new.self c.of.result.value i.could c.could-self-inside.result i.before.value i.spent c.if-self.false c.self.invariant c.of.ensures c.in_err-request.ensures.stage c.in_err-request.ensures.journal
    c.could-self-inside.ensures.send c.could-self-inside.ensures.act c.could-self-inside.ensures.take

pub invariant_of-self-2 : goal.invariant_of-self-2
invariant_of-self-2 c =
    let i = c.self.inside in
    kept-behind i.side i.before.value c.send.new.self c.of.result.value i.spent c.args.self.now (λ (s : Shown). journaled event.Send (sends s.desk) s) c.if-self.false c.self.view_is c.self.invariant c.in_ok-request.ensures.sound c.in_ok-request.ensures.shown
    (send-replayed c.args.self.now c.requires.can)
