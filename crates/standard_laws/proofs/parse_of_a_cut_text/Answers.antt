use Rattle.standard_laws.proofs.Parse.{parse-append}
use Rattle.standard_laws.proofs.parse_of_a_cut_text.Goals as goal

pub returns : goal.returns
returns c = parse-append
