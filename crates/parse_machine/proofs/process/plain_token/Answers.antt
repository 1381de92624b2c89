use Rattle.parse_machine.proofs.MachineLemmas.{plain_read}
use Rattle.parse_machine.proofs.process.plain_token.Goals as goal

pub returns-then-is_plain : goal.returns-then-is_plain
returns-then-is_plain c = λ es foreign. plain_read es foreign c.args.tokenizer.now.state c.state.result.now c.class_of.result c.args.c c.state.ensures c.class_of.ensures (c.is_plain.ensures c.if-is_plain.true es foreign c.args.c)
