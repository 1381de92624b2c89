use Rattle.standard_laws.proofs.Passing as law
use Rattle.moment_laws.proofs.leads_on.Goals as goal

pub returns-clause-same : goal.returns-clause-same
returns-clause-same c = law.leads-same

pub returns-clause-next : goal.returns-clause-next
returns-clause-next c = law.leads-next

pub returns-clause-then : goal.returns-clause-then
returns-clause-then c = law.leads-then
