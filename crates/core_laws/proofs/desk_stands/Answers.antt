use Rattle.core_laws.proofs.Standing as law
use Rattle.core_laws.proofs.Handing.{more-may_follow}
use Rattle.core_laws.proofs.desk_stands.Goals as goal

pub returns-clause-stands_for : goal.returns-clause-stands_for
returns-clause-stands_for c = law.always-stands_for

pub returns-clause-ends : goal.returns-clause-ends
returns-clause-ends c = law.ends-as-serial

pub returns-clause-stays : goal.returns-clause-stays
returns-clause-stays c = law.end-stays

pub returns-clause-lines : goal.returns-clause-lines
returns-clause-lines c = law.lines-begin

pub returns-clause-failures : goal.returns-clause-failures
returns-clause-failures c = law.failures-are-epochs

pub returns-clause-more : goal.returns-clause-more
returns-clause-more c = more-may_follow
