use Rattle.page_batch.proofs.StageLemmas.{awaited-is}
use Rattle.page_batch.proofs.slot.Slot.awaited.Goals as goal

pub returns-in-Unread : goal.returns-in-Unread
returns-in-Unread g c = awaited-is c.self.inside.file.value c.self.inside.stage _ c.args.self.now c.self.view_is c.in-Unread.is

pub returns-in-Waits : goal.returns-in-Waits
returns-in-Waits g c = awaited-is c.self.inside.file.value c.self.inside.stage _ c.args.self.now c.self.view_is c.in-Waits.is

pub returns-in-Over : goal.returns-in-Over
returns-in-Over g c = awaited-is c.self.inside.file.value c.self.inside.stage _ c.args.self.now c.self.view_is c.in-Over.is

pub returns-in-Spent : goal.returns-in-Spent
returns-in-Spent g c = awaited-is c.self.inside.file.value c.self.inside.stage _ c.args.self.now c.self.view_is c.in-Spent.is
