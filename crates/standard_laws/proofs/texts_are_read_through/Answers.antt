use Rattle.standard_laws.proofs.Quiet.{through-parse, through-append}
use Rattle.standard_laws.proofs.texts_are_read_through.Goals as goal

pub returns-clause-parse : goal.returns-clause-parse
returns-clause-parse c = through-parse

pub returns-clause-pieces : goal.returns-clause-pieces
returns-clause-pieces c = through-append
