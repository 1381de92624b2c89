use Rattle.std.proofs.Common.{sym, ◌∙◌}
use Rattle.op_exec.proofs.Types.{is_javascript-empty, is_javascript-some}
use Rattle.op_exec.proofs.script.is_javascript.Goals as goal

pub returns-then-is_empty : goal.returns-then-is_empty
returns-then-is_empty c = c.if-is_empty.true ∙ sym (is_javascript-empty c.args.text.now c.utf8.text (sym c.is_empty.ensures ∙ c.if-is_empty.true))

pub returns-else-is_empty : goal.returns-else-is_empty
returns-else-is_empty c = c.is_among.ensures ∙ sym (is_javascript-some c.args.text.now c.utf8.text (sym c.is_empty.ensures ∙ c.if-is_empty.false))
