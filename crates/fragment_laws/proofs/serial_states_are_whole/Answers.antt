use Rattle.fragment_laws.proofs.Whole.{moments-whole, scripts-whole}
use Rattle.fragment_laws.proofs.serial_states_are_whole.Goals as goal

pub returns-clause-moments : goal.returns-clause-moments
returns-clause-moments c = moments-whole

pub returns-clause-scripts : goal.returns-clause-scripts
returns-clause-scripts c = scripts-whole
