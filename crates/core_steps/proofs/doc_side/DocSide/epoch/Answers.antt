use Rattle.std.proofs.Common.{sym, ap}
use Rattle.core_steps.specs.Sides.{Shown}
use Rattle.core_steps.proofs.DocSides.{told-now}
use Rattle.core_steps.proofs.doc_side.DocSide.epoch.Goals as goal

pub returns : goal.returns
returns c = λ going. ap (λ (s : Shown). s.desk.epoch) (sym (told-now c.self.inside.side c.self.inside.before.value c.self.inside.spent c.args.self.now c.self.view_is going))
