use Rattle.tokenizer_laws.proofs.CdataLaws.{cdata-is-text}
use Rattle.tokenizer_laws.proofs.cdata_is_text.Goals as goal

pub returns : goal.returns
returns c = cdata-is-text
