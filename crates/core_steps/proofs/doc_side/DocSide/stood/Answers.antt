use Rattle.std.proofs.Common.{◌∙◌, ap}
use Rattle.core_steps.specs.Sides.{Shown}
use Rattle.core_steps.proofs.DocSides.{failed-running, failed-stands}
use Rattle.core_steps.proofs.doc_side.DocSide.stood.Goals as goal

pub returns-then-self : goal.returns-then-self
returns-then-self c = failed-running c.self.invariant (ap (λ (s : Shown). s.spent) c.self.view_is ∙ c.requires) c.if-self.true c.self.view_is

pub returns : goal.returns
returns c = c.status.ensures ∙ failed-stands c.self.invariant (ap (λ (s : Shown). s.spent) c.self.view_is ∙ c.requires) c.if-self.false c.self.view_is
