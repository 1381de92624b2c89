use Rattle.std.proofs.Common.{◌∙◌, sym, ap}
use Rattle.core_definitions.specs.Desk.{can_do}
use Rattle.core_steps.specs.Sides.{Shown}
use Rattle.core_steps.proofs.DocSides.{told-now, failed-do}
use Rattle.core_steps.proofs.doc_side.DocSide.can_do.Goals as goal

pub returns-then-self : goal.returns-then-self
returns-then-self c = failed-do c.self.invariant c.if-self.true c.self.view_is

pub returns : goal.returns
returns c = c.can_do.ensures ∙ ap (λ (s : Shown). can_do s.desk) (sym (told-now c.self.inside.side c.self.inside.before.value c.self.inside.spent c.args.self.now c.self.view_is (sym (ap (λ (s : Shown). s.spent) c.self.view_is) ∙ c.if-self.false)))
