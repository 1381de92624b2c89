use Rattle.standard_laws.proofs.Frames.{outside-text, text-begins}
use Rattle.standard_laws.proofs.nested_text_begins.Goals as goal

pub returns-clause-outside : goal.returns-clause-outside
returns-clause-outside c = outside-text

pub returns-clause-begins : goal.returns-clause-begins
returns-clause-begins c = text-begins
