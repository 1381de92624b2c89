use Rattle.moment_laws.proofs.Through as law
use Rattle.moment_laws.proofs.goes_through.Goals as goal

pub returns-clause-batches : goal.returns-clause-batches
returns-clause-batches c = law.batches-through

pub returns-clause-onward : goal.returns-clause-onward
returns-clause-onward c = law.goes-on

pub returns-clause-leads : goal.returns-clause-leads
returns-clause-leads c = law.through-leads

pub returns-clause-ending : goal.returns-clause-ending
returns-clause-ending c = law.through-any

pub returns-clause-settles : goal.returns-clause-settles
returns-clause-settles c = law.through-settles
