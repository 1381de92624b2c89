use Rattle.core_laws.proofs.Together as law
use Rattle.core_laws.proofs.Existing.{enabled-steps}
use Rattle.core_laws.proofs.OneResult.{one-step}
use Rattle.core_laws.proofs.every_interleaving.Goals as goal

pub returns-clause-desk : goal.returns-clause-desk
returns-clause-desk c = law.core-is_desk

pub returns-clause-stands_for : goal.returns-clause-stands_for
returns-clause-stands_for c = law.core-stands_for

pub returns-clause-ends : goal.returns-clause-ends
returns-clause-ends c = law.core-ends

pub returns-clause-stays : goal.returns-clause-stays
returns-clause-stays c = law.core-end_stays

pub returns-clause-lines : goal.returns-clause-lines
returns-clause-lines c = law.core-lines

pub returns-clause-never_stuck : goal.returns-clause-never_stuck
returns-clause-never_stuck c = law.never-stuck

pub returns-clause-steps : goal.returns-clause-steps
returns-clause-steps c = enabled-steps

pub returns-clause-one_step : goal.returns-clause-one_step
returns-clause-one_step c = one-step
