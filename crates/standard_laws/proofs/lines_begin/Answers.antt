use Rattle.standard_laws.proofs.Lines.{passed-lines, passed-output}
use Rattle.standard_laws.proofs.lines_begin.Goals as goal

pub returns-clause-lines : goal.returns-clause-lines
returns-clause-lines c = passed-lines

pub returns-clause-output : goal.returns-clause-output
returns-clause-output c = passed-output
