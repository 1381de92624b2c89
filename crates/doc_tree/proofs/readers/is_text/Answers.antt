use Rattle.std.proofs.Common.{◌∙◌}
use Rattle.html_types.proofs.TextLemmas.{same_text-chars}
use Rattle.doc_tree.proofs.readers.is_text.Goals as goal

pub returns : goal.returns
returns c = c.eq.ensures ∙ same_text-chars _ _ c.utf8.value c.utf8.text
