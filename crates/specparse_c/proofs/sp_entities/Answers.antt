use Rattle.specparse_c.specs.declared.failure.Failure.TheVariants as failure
use Rattle.specparse_c.specs.Rooms.{items_of}
use Rattle.specparse_c.specs.Calls.{FailsAtTable}
use Rattle.specparse_c.proofs.Laying.{failed-made, none-needed-made, keeps-made}
use Rattle.specparse_c.proofs.Calls.{entities-done, entities-lacks, entities-statuses}
use Rattle.specparse_c.proofs.sp_entities.Goals as goal

pub returns-clause-done : goal.returns-clause-done
returns-clause-done c = entities-done c.args.entities.now _ _ _ _ _ c.entities-prepared.ensures.prepared c.give_prepared.ensures

pub returns-clause-no_room : goal.returns-clause-no_room
returns-clause-no_room c = entities-lacks c.args.entities.now _ _ _ _ _ c.entities-prepared.ensures.prepared c.give_prepared.ensures

pub returns-clause-no_entities : goal.returns-clause-no_entities
returns-clause-no_entities c = failed-made items_of (FailsAtTable c.args.entities.now) failure.Entities _ _ _ _ _ c.entities-prepared.ensures.failure c.give_prepared.ensures

pub returns-clause-statuses : goal.returns-clause-statuses
returns-clause-statuses c = entities-statuses c.args.entities.now _ _ _ _ _ c.entities-prepared.ensures.failure c.give_prepared.ensures

pub returns-clause-nothing : goal.returns-clause-nothing
returns-clause-nothing c = none-needed-made items_of _ _ _ _ _ c.give_prepared.ensures

pub returns-clause-kept : goal.returns-clause-kept
returns-clause-kept c = keeps-made items_of _ _ _ _ _ c.give_prepared.ensures
