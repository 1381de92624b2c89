use Rattle.page_batch.specs.Going.{StopsAt}
use Rattle.page_batch.proofs.StageLemmas.{ends-stays, ends-known, awaits-there}
use Rattle.page_batch.proofs.slot.run_stage.Goals as goal

pub ended-requires : goal.ended-requires
ended-requires g c = (c.args.table.now, c.in-Ok.ensures.ends)

pub returns-in-Ok-clause-stays : goal.returns-in-Ok-clause-stays
returns-in-Ok-clause-stays g c =
    ends-stays c.args.table.now c.args.pair c.run_on.new.pair c.args.text.items c.run_on.new.text.items c.in-Ok.ensures.goes g.E.InForce.entities c.ended.result c.ended.ensures.stays

pub returns-in-Ok-clause-known : goal.returns-in-Ok-clause-known
returns-in-Ok-clause-known g c =
    ends-known c.args.table.now c.args.pair c.run_on.new.pair c.args.text.items c.run_on.new.text.items c.in-Ok.ensures.goes c.ended.result c.ended.ensures.used

pub returns-in-Ok-clause-awaits : goal.returns-in-Ok-clause-awaits
returns-in-Ok-clause-awaits g c = awaits-there (λ table. StopsAt table c.run_on.new.pair c.in-Ok.stop) c.args.table.now c.ended.result c.in-Ok.ensures.ends c.ended.ensures.awaits
