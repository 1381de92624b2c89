use Rattle.core_laws.proofs.Replaying as law
use Rattle.core_laws.proofs.journals_replay.Goals as goal

pub returns-clause-desk : goal.returns-clause-desk
returns-clause-desk c = law.desk-is_core

pub returns-clause-journal : goal.returns-clause-journal
returns-clause-journal c = law.journals-replay

pub returns-clause-reached : goal.returns-clause-reached
returns-clause-reached c = law.journals-are_reached
