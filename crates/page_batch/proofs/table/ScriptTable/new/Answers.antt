use Rattle.core_steps.proofs.Indexes.{none-indexed}
use Rattle.page_batch.proofs.table.ScriptTable.new.Goals as goal

pub invariant_of-result : goal.invariant_of-result
invariant_of-result c = none-indexed c.new.result c.new-2.result.items c.new.ensures.empty c.new-2.ensures.items
