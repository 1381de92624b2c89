use Rattle.standard_laws.proofs.Frames.{rest-ends, rest-stops, rest-refuses}
use Rattle.standard_laws.proofs.written_text_is_parsed.Goals as goal

pub returns-clause-end : goal.returns-clause-end
returns-clause-end c = rest-ends

pub returns-clause-script : goal.returns-clause-script
returns-clause-script c = rest-stops

pub returns-clause-deep : goal.returns-clause-deep
returns-clause-deep c = rest-refuses
