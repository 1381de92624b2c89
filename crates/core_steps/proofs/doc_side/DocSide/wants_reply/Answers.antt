use Rattle.std.proofs.Common.{◌∙◌, sym, ap}
use Rattle.core_definitions.specs.Desk.{wants_reply}
use Rattle.core_steps.specs.Sides.{Shown}
use Rattle.core_steps.proofs.DocSides.{told-now, failed-take}
use Rattle.core_steps.proofs.doc_side.DocSide.wants_reply.Goals as goal

pub returns-then-self : goal.returns-then-self
returns-then-self c = failed-take c.self.invariant c.if-self.true c.self.view_is

pub returns : goal.returns
returns c = c.wants_reply.ensures ∙ ap (λ (s : Shown). wants_reply s.desk) (sym (told-now c.self.inside.side c.self.inside.before.value c.self.inside.spent c.args.self.now c.self.view_is (sym (ap (λ (s : Shown). s.spent) c.self.view_is) ∙ c.if-self.false)))
