use Rattle.core_laws.proofs.Framing as law
use Rattle.core_laws.proofs.moments_rename.Goals as goal

pub returns-clause-scripts : goal.returns-clause-scripts
returns-clause-scripts c = law.scripts-rename

pub returns-clause-moments : goal.returns-clause-moments
returns-clause-moments c = law.moments-rename

pub returns-clause-fetches : goal.returns-clause-fetches
returns-clause-fetches c = law.fetches-rename
