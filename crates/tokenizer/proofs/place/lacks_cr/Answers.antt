use Rattle.std.proofs.Common.{sym, ◌∙◌}
use Rattle.tokenizer.proofs.WholeLemmas.{no_cr-bytes, not-true}
use Rattle.tokenizer.proofs.place.lacks_cr.Goals as goal

pub returns : goal.returns
returns c h = no_cr-bytes c.args.text.now c.utf8.text (rw (← c.as_bytes.ensures.value) (sym c.has_cr_byte.ensures ∙ not-true c.has_cr_byte.result h))
