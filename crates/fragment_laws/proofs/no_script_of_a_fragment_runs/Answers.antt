use Rattle.fragment_laws.proofs.Unnamed.{fragments-unnamed, unnamed-acts, scripts-unnamed, statements-unnamed, moments-unnamed, stops-named, moments-run-others}
use Rattle.fragment_laws.proofs.no_script_of_a_fragment_runs.Goals as goal

pub returns-clause-unnamed : goal.returns-clause-unnamed
returns-clause-unnamed c = fragments-unnamed

pub returns-clause-operations : goal.returns-clause-operations
returns-clause-operations c = unnamed-acts

pub returns-clause-scripts : goal.returns-clause-scripts
returns-clause-scripts c = scripts-unnamed

pub returns-clause-statements : goal.returns-clause-statements
returns-clause-statements c = statements-unnamed

pub returns-clause-moments : goal.returns-clause-moments
returns-clause-moments c = moments-unnamed

pub returns-clause-stops : goal.returns-clause-stops
returns-clause-stops c = stops-named

pub returns-clause-runs : goal.returns-clause-runs
returns-clause-runs c = moments-run-others
