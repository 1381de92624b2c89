use Rattle.tokenizer_laws.proofs.TokenizerLaws.{cut-anywhere}
use Rattle.tokenizer_laws.proofs.cut_anywhere.Goals as goal

pub returns : goal.returns
returns c = cut-anywhere
