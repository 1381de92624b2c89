use Rattle.core_steps.proofs.Indexes.{none-indexed}
use Rattle.core_steps.proofs.journal.Journal.new.Goals as goal

pub invariant_of-result : goal.invariant_of-result
invariant_of-result c = none-indexed c.new-2.result c.new-3.result.items c.new-2.ensures.empty c.new-3.ensures.items
