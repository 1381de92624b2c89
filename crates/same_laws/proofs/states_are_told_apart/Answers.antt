use Rattle.same_laws.proofs.Telling.{told, have-steps}
use Rattle.same_laws.proofs.states_are_told_apart.Goals as goal

pub returns-clause-told : goal.returns-clause-told
returns-clause-told c = told

pub returns-clause-steps : goal.returns-clause-steps
returns-clause-steps c = have-steps
