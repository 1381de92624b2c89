use Rattle.tokenizer_laws.proofs.MarkLaws.{asks-at-declarations}
use Rattle.tokenizer_laws.proofs.asks_at_declarations.Goals as goal

pub returns : goal.returns
returns c = asks-at-declarations
