use Rattle.std.proofs.Common.{◌∙◌}
use Rattle.html_types.proofs.TextLemmas.{same_text-chars}
use Rattle.html_types.proofs.text.Text.is.Goals as goal

pub returns : goal.returns
returns c =
    rw (← c.as_str.ensures)
    (c.eq.ensures ∙ same_text-chars _ _ c.as_str.utf8 c.utf8.word)
