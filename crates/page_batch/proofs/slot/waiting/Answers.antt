use Rattle.std.proofs.Common.{refl}
use Rattle.page_batch.proofs.slot.waiting.Goals as goal

pub returns-clause-stays : goal.returns-clause-stays
returns-clause-stays g c = λ read h. (read, refl, h)
