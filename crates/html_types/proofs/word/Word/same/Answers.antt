use Rattle.std.proofs.Common.{◌∙◌, sym}
use Rattle.html_types.proofs.WordLemmas.{word_decides}
use Rattle.html_types.proofs.word.Word.same.Goals as goal

pub returns-clause-exact : goal.returns-clause-exact
returns-clause-exact c =
    let decides = word_decides c.args.self c.args.other in
    (λ e. decides.0 (sym c.eq.ensures ∙ e), λ e. c.eq.ensures ∙ decides.1 e)
