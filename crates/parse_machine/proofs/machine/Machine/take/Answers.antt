use Rattle.std.proofs.Common.{sym, ◌∙◌, ◌==◌}
use Rattle.parse_machine.proofs.MachineLemmas.{taken-skipped, taken-read}
use Rattle.parse_machine.proofs.machine.Machine.take.Goals as goal

pub returns-then-skips : goal.returns-then-skips
returns-then-skips c = rw (← c.self.view_is)
    (taken-skipped c.args.table.now c.self.inside.tokenizer.state c.self.inside.after_cr c.self.inside.builder c.args.c c.args.ops.now (sym c.skips.ensures ∙ c.if-skips.true))

pub returns-in-Ok : goal.returns-in-Ok
returns-in-Ok c = rw (← c.self.view_is)
    (taken-read c.args.table.now c.self.inside.tokenizer.state c.self.inside.after_cr c.self.inside.builder c.args.c c.line_feed_for_cr-read.result c.args.ops.now _ (sym c.skips.ensures ∙ c.if-skips.false) c.line_feed_for_cr-read.ensures (c.in-Ok.ensures.built (c.args.c == 13)))
