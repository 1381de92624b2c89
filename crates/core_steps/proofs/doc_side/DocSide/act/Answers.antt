use Rattle.std.proofs.Common.{subst, sym, IsTrue}
use Rattle.core_steps.specs.Changing.{LogsDo}
use Rattle.core_definitions.specs.Desk.{can_do}
use Rattle.core_steps.specs.Sides.{Shown, desk_of}
use Rattle.core_steps.proofs.DocSides.{shown-now, kept-now, kept-failed, told-running, do-kept}
use Rattle.core_steps.proofs.doc_side.DocSide.act.Goals as goal

pub invariant_of-self : goal.invariant_of-self
invariant_of-self c =
    let i = c.self.inside in
    let can : IsTrue (can_do (desk_of i.side)) = subst (λ (s : Shown). IsTrue (can_do s.desk)) (shown-now i.side i.before.value i.spent c.args.self.now c.if-self.false c.self.view_is) c.requires.can in
    kept-failed i.side c.act.new.self c.of.result.value c.could-self-inside.result c.of.ensures c.in_err-act.ensures.journal
    (told-running i.side c.act.new.self c.of.result.value c.could-self-inside.result c.of.ensures can c.could-self-inside.ensures.send c.could-self-inside.ensures.act c.could-self-inside.ensures.take)
    (kept-now i.side i.before.value i.spent c.if-self.false c.self.invariant).1

pub invariant_of-self-2 : goal.invariant_of-self-2
invariant_of-self-2 c =
    let i = c.self.inside in
    do-kept i.side i.before.value c.act.new.self c.of.result.value i.spent c.args.self.now c.if-self.false c.self.view_is c.self.invariant c.requires.can c.in_ok-act.ensures.sound c.in_ok-act.ensures.does c.in_ok-act.ensures.others

pub returns-clause-logged : goal.returns-clause-logged
returns-clause-logged c =
    let i = c.self.inside in
    subst (λ (s : Shown). LogsDo s.entities s.journal.fetches s.desk (desk_of c.act.new.self) c.args.log.now c.act.new.log) (sym (shown-now i.side i.before.value i.spent c.args.self.now c.if-self.false c.self.view_is)) c.in_ok-act.ensures.logged
