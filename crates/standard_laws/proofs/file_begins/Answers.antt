use Rattle.standard_laws.proofs.Scripts.{file-syntax_error}
use Rattle.standard_laws.proofs.Frames.{files-enter}
use Rattle.standard_laws.proofs.file_begins.Goals as goal

pub returns-clause-syntax : goal.returns-clause-syntax
returns-clause-syntax c = file-syntax_error

pub returns-clause-enters : goal.returns-clause-enters
returns-clause-enters c = files-enter
