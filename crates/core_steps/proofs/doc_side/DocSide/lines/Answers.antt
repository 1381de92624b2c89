use Rattle.std.proofs.Common.{List, ◌++◌, ◌∙◌, sym, ap}
use Rattle.serial.specs.declared.script.Line.{Line}
use Rattle.core_steps.specs.Sides.{Shown, lines_given}
use Rattle.core_steps.proofs.DocSides.{told-now}
use Rattle.core_steps.proofs.doc_side.DocSide.lines.Goals as goal

pub returns : goal.returns
returns c = λ going.
    let told = told-now c.self.inside.side c.self.inside.before.value c.self.inside.spent c.args.self.now c.self.view_is going in
    ap (λ (s : Shown). s.desk.own.side.lines) told
    ∙ (ap (λ (ls : List Line). lines_given c.self.inside.side.given.items ++ ls) (sym c.lines.ensures) ∙ ap (λ (s : Shown). s.given ++ c.lines.result.now) (sym told))
