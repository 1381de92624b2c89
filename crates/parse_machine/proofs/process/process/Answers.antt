use Rattle.std.proofs.Common.{refl}
use Rattle.parse_machine.proofs.MachineLemmas.{went_on, went_switched, went_script, went_deep, goes_on_else}
use Rattle.parse_machine.proofs.process.process.Goals as goal

pub returns-in_default-clause-built : goal.returns-in_default-clause-built
returns-in_default-clause-built c = λ cr. went_on c.args.token.now cr c.args.tokenizer.now c.args.tokenizer.now c.args.builder.now c.construct.new.builder c.args.ops.now c.construct.new.ops c.in_ok-reading.field-0 c.in_ok-reading.ensures (goes_on_else c.in_ok-reading.field-0 c.in_default.not-SwitchTokenizer c.in_default.not-Script c.in_default.not-Deep) refl

pub returns-in-SwitchTokenizer-clause-built : goal.returns-in-SwitchTokenizer-clause-built
returns-in-SwitchTokenizer-clause-built c = λ cr. went_switched c.args.token.now cr c.args.tokenizer.now c.load.new.self c.args.builder.now c.construct.new.builder c.args.ops.now c.construct.new.ops c.in_ok-reading.field-0 c.in-SwitchTokenizer.reading _ c.in_ok-reading.ensures c.in-SwitchTokenizer.is c.read_as.ensures c.load.ensures.tokens c.load.ensures.state

pub returns-in-Script-clause-built : goal.returns-in-Script-clause-built
returns-in-Script-clause-built c = λ cr. went_script c.args.token.now cr c.args.tokenizer.now c.args.tokenizer.now c.args.builder.now c.construct.new.builder c.args.ops.now c.construct.new.ops c.in_ok-reading.field-0 c.in-Script.id c.in_ok-reading.ensures c.in-Script.is refl

pub returns-in-Deep-clause-built : goal.returns-in-Deep-clause-built
returns-in-Deep-clause-built c = λ cr. went_deep c.args.token.now cr c.args.tokenizer.now c.args.tokenizer.now c.args.builder.now c.construct.new.builder c.args.ops.now c.construct.new.ops c.in_ok-reading.field-0 c.in_ok-reading.ensures c.in-Deep.is refl
