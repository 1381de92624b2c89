use Rattle.parse_machine.proofs.MachineLemmas.{finished-read}
use Rattle.parse_machine.proofs.machine.Machine.end_input.Goals as goal

pub returns-in-Ok : goal.returns-in-Ok
returns-in-Ok c = rw (← c.self.view_is)
    (finished-read c.args.table.now c.self.inside.tokenizer.state c.self.inside.after_cr c.self.inside.builder c.args.ops.now _ (c.in-Ok.ensures.built c.self.inside.after_cr))
