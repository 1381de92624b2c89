use Rattle.page_batch.proofs.StageLemmas.{part-is}
use Rattle.page_batch.proofs.slot.Slot.part.Goals as goal

pub returns-in-Over : goal.returns-in-Over
returns-in-Over g c = part-is g.E.InForce.entities c.self.inside.file.value c.self.inside.stage _ c.args.self.now c.self.view_is c.in-Over.is c.self.invariant
