use Rattle.parse_machine.proofs.MachineLemmas.{went_alone}
use Rattle.parse_machine.proofs.process.process_alone.Goals as goal

pub returns-in-AllUsed : goal.returns-in-AllUsed
returns-in-AllUsed c = absurd (c.in_ok-process.ensures.some c.in-AllUsed.is)

pub returns-in-On-clause-built : goal.returns-in-On-clause-built
returns-in-On-clause-built c = λ cr.
    went_alone c.args.token.now cr c.args.tokenizer.now c.process.new.tokenizer c.args.builder.now c.process.new.builder c.args.ops.now c.process.new.ops
    c.in_ok-process.field-0 c.requires c.process.ensures.waiting c.in-On.is (c.in_ok-process.ensures.built cr)
