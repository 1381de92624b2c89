use Rattle.parse_machine.proofs.MachineLemmas.{none_last}
use Rattle.parse_machine.proofs.process.process_first_of_last.Goals as goal

pub returns-in-None-clause-built : goal.returns-in-None-clause-built
returns-in-None-clause-built c = λ cr. none_last cr c.args.tokenizer.now c.pop.new.self c.args.builder.now c.args.ops.now c.in-None.ensures.none c.pop.ensures.state
