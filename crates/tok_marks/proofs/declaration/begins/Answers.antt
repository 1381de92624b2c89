use Rattle.std.proofs.Common.{◌∙◌}
use Rattle.std.proofs.lemmas.Str.Pattern.{starts_text}
use Rattle.tok_marks.proofs.Fronts.{starts-front}
use Rattle.tok_marks.proofs.declaration.begins.Goals as goal

pub returns : goal.returns
returns c =
    rw (← c.as_str.ensures)
    (starts_text _ _ _ c.starts_with.ensures.cases ∙ starts-front _ _ c.as_str.utf8 c.utf8.word)
