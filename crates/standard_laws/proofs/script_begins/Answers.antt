use Rattle.standard_laws.proofs.Scripts.{still-script, external-script, syntax-error}
use Rattle.standard_laws.proofs.Frames.{scripts-enter}
use Rattle.standard_laws.proofs.script_begins.Goals as goal

pub returns-clause-still : goal.returns-clause-still
returns-clause-still c = still-script

pub returns-clause-external : goal.returns-clause-external
returns-clause-external c = external-script

pub returns-clause-syntax : goal.returns-clause-syntax
returns-clause-syntax c = syntax-error

pub returns-clause-enters : goal.returns-clause-enters
returns-clause-enters c = scripts-enter
