use Rattle.std.proofs.Common.{◌∙◌}
use Rattle.tag_sets.proofs.Texts.{same_text-chars}
use Rattle.op_exec.proofs.fragment.is_text.Goals as goal

pub returns : goal.returns
returns c = c.eq.ensures ∙ same_text-chars _ _ c.utf8.text c.utf8.name
