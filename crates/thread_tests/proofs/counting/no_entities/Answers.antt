use Rattle.made_laws.proofs.MadePages.{names-no_entity}
use Rattle.thread_tests.proofs.counting.no_entities.Goals as goal

pub returns-in-Ok : goal.returns-in-Ok
returns-in-Ok c = let none = names-no_entity in let some = c.in-Ok.ensures.table in cc
