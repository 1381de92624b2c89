use Rattle.standard_laws.proofs.Frames.{write-fits, write-refuses, line-fits, line-refuses, removes, appends, fills, fill-refuses, reads_by_id, reads_root, throws, frame-ends, frames-end}
use Rattle.standard_laws.proofs.statements_run.Goals as goal

pub returns-clause-write : goal.returns-clause-write
returns-clause-write c = write-fits

pub returns-clause-long : goal.returns-clause-long
returns-clause-long c = write-refuses

pub returns-clause-line : goal.returns-clause-line
returns-clause-line c = line-fits

pub returns-clause-long_line : goal.returns-clause-long_line
returns-clause-long_line c = line-refuses

pub returns-clause-remove : goal.returns-clause-remove
returns-clause-remove c = removes

pub returns-clause-append : goal.returns-clause-append
returns-clause-append c = appends

pub returns-clause-fill : goal.returns-clause-fill
returns-clause-fill c = fills

pub returns-clause-too_deep : goal.returns-clause-too_deep
returns-clause-too_deep c = fill-refuses

pub returns-clause-read : goal.returns-clause-read
returns-clause-read c = reads_by_id

pub returns-clause-read_root : goal.returns-clause-read_root
returns-clause-read_root c = reads_root

pub returns-clause-throw : goal.returns-clause-throw
returns-clause-throw c = throws

pub returns-clause-end : goal.returns-clause-end
returns-clause-end c = frame-ends

pub returns-clause-last : goal.returns-clause-last
returns-clause-last c = frames-end
