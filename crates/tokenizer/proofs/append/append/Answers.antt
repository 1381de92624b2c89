use Rattle.tokenizer.specs.Whole.{piece}
use Rattle.tokenizer.proofs.WholeLemmas.{piece-none}
use Rattle.tokenizer.proofs.AppendLemmas.{stays-there, no_cr-none}
use Rattle.tokenizer.proofs.append.append.Goals as goal

pub returns-in_default-clause-led : goal.returns-in_default-clause-led
returns-in_default-clause-led c = stays-there c.args.state.now (piece c.args.text.now c.args.from c.args.from) (piece-none c.args.text.now c.args.from)

pub returns-in_default-clause-no_cr : goal.returns-in_default-clause-no_cr
returns-in_default-clause-no_cr c = no_cr-none (piece-none c.args.text.now c.args.from)
