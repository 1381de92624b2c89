use Rattle.moment_laws.proofs.Served as law
use Rattle.moment_laws.proofs.realms_have_room.Goals as goal

pub returns-clause-serves : goal.returns-clause-serves
returns-clause-serves c = law.room-serves

pub returns-clause-begins : goal.returns-clause-begins
returns-clause-begins c = law.first-room

pub returns-clause-texts : goal.returns-clause-texts
returns-clause-texts c = law.texts-room

pub returns-clause-ends : goal.returns-clause-ends
returns-clause-ends c = law.ends-room

pub returns-clause-moments : goal.returns-clause-moments
returns-clause-moments c = law.moments-room

pub returns-clause-renewed : goal.returns-clause-renewed
returns-clause-renewed c = law.renewing-room
