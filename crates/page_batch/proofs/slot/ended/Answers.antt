use Rattle.page_batch.specs.Going.{StopsAt}
use Rattle.page_batch.proofs.StageLemmas.{over-awaits, waits-awaits}
use Rattle.page_batch.proofs.slot.ended.Goals as goal

pub over_stage-requires : goal.over_stage-requires
over_stage-requires g c = rw c.in-Over.is at c.requires.1

pub returns-in-Over-clause-awaits : goal.returns-in-Over-clause-awaits
returns-in-Over-clause-awaits g c = over-awaits (λ table. StopsAt table c.args.pair c.args.stop) c.over_stage.result c.over_stage.ensures.awaits

pub returns-in-Awaits-clause-stays : goal.returns-in-Awaits-clause-stays
returns-in-Awaits-clause-stays g c = c.waiting.ensures.stays

pub returns-in-Awaits-clause-awaits : goal.returns-in-Awaits-clause-awaits
returns-in-Awaits-clause-awaits g c = λ table stops. waits-awaits table c.in-Awaits.awaits c.waiting.result c.waiting.ensures.awaits (rw c.in-Awaits.is at stops)
