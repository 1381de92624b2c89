use Rattle.standard_laws.proofs.Passing.{leads-end, leads-finish, passes-over}
use Rattle.standard_laws.proofs.end_leads.Goals as goal

pub returns-clause-ending : goal.returns-clause-ending
returns-clause-ending c = leads-end

pub returns-clause-finish : goal.returns-clause-finish
returns-clause-finish c = leads-finish

pub returns-clause-outcome : goal.returns-clause-outcome
returns-clause-outcome c = passes-over
