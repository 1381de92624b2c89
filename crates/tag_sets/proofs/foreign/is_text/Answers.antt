use Rattle.std.proofs.Common.{◌∙◌}
use Rattle.tag_sets.proofs.Texts.{same_text-chars}
use Rattle.tag_sets.proofs.foreign.is_text.Goals as goal

pub returns : goal.returns
returns c = rw (← c.as_str.ensures) (c.eq.ensures ∙ same_text-chars _ _ c.as_str.utf8 c.utf8.text)
