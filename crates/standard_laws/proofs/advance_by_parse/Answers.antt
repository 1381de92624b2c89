use Rattle.standard_laws.proofs.Parse.{advance-parse}
use Rattle.standard_laws.proofs.advance_by_parse.Goals as goal

pub returns : goal.returns
returns c = advance-parse
