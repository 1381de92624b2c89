use Rattle.std.proofs.Common.{subst}
use Rattle.core_steps.proofs.Indexes.{found-some, found-none}
use Rattle.page_batch.proofs.table.ScriptTable.find.Goals as goal

pub returns-clause-found : goal.returns-clause-found
returns-clause-found c = rw (← c.self.view_is) (found-some c.self.inside.files _ c.args.name.now c.get.result c.self.invariant c.utf8.name c.get.ensures.value)

pub returns-clause-none : goal.returns-clause-none
returns-clause-none c = rw (← c.self.view_is) (found-none c.self.inside.files _ c.args.name.now c.get.result c.self.invariant c.utf8.name c.get.ensures.value)
