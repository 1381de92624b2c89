use Rattle.tokenizer_laws.proofs.TokenizerLaws.{ends-always}
use Rattle.tokenizer_laws.proofs.ends_always.Goals as goal

pub returns : goal.returns
returns c = ends-always
