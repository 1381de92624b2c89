use Rattle.std.proofs.Common.{refl}
use Rattle.parse_machine.proofs.MachineLemmas.{ended_on, ended_finished, ended_deep, ends_on_else}
use Rattle.parse_machine.proofs.process.process_last.Goals as goal

pub returns-in_default : goal.returns-in_default
returns-in_default c = λ cr m. ended_on c.args.token.now cr m m c.args.builder.now c.construct.new.builder c.args.ops.now c.construct.new.ops c.in_ok-construct.field-0 c.in_ok-construct.ensures (ends_on_else c.in_ok-construct.field-0 c.in_default.not-Finished c.in_default.not-Deep) refl

pub returns-in-Finished : goal.returns-in-Finished
returns-in-Finished c = λ cr m. ended_finished c.args.token.now cr m m c.args.builder.now c.construct.new.builder c.args.ops.now c.construct.new.ops c.in_ok-construct.field-0 c.in_ok-construct.ensures c.in-Finished.is refl

pub returns-in-Deep : goal.returns-in-Deep
returns-in-Deep c = λ cr m. ended_deep c.args.token.now cr m m c.args.builder.now c.construct.new.builder c.args.ops.now c.construct.new.ops c.in_ok-construct.field-0 c.in_ok-construct.ensures c.in-Deep.is refl
