use Rattle.std.proofs.Common.{◌∙◌, sym, ap}
use Rattle.core_steps.specs.Sides.{Shown, standing_of}
use Rattle.core_steps.proofs.DocSides.{shown-now, awaited-arrives}
use Rattle.core_steps.proofs.doc_side.DocSide.status.Goals as goal

pub returns-then-self-clause-awaited : goal.returns-then-self-clause-awaited
returns-then-self-clause-awaited c = λ name is. awaited-arrives c.args.self.now.desk name (is ∙ c.stood.ensures)

pub returns-clause-standing : goal.returns-clause-standing
returns-clause-standing c =
    let i = c.self.inside in
    c.status.ensures ∙ ap (λ (s : Shown). standing_of s.desk) (sym (shown-now i.side i.before.value i.spent c.args.self.now c.if-self.false c.self.view_is))

pub returns-clause-awaited : goal.returns-clause-awaited
returns-clause-awaited c = λ name is.
    let i = c.self.inside in
    awaited-arrives c.args.self.now.desk name
    (is ∙ (c.status.ensures ∙ ap (λ (s : Shown). standing_of s.desk) (sym (shown-now i.side i.before.value i.spent c.args.self.now c.if-self.false c.self.view_is))))
