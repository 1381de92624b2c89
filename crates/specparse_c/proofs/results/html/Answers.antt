use Rattle.std.proofs.Common.{ap, ◌∙◌}
use Rattle.standard.specs.Outer.{document_text}
use Rattle.std.proofs.lemmas.Result.{err_from_is_err_and}
use Rattle.specparse_c.proofs.results.html.Goals as goal

pub returns-in_err-text-clause-failure : goal.returns-in_err-text-clause-failure
returns-in_err-text-clause-failure c =
    let p = err_from_is_err_and c.from_residual-in_err-text.result c.from_residual-in_err-text.ensures.1 in
    rw (p.1, p.2) tt

pub returns-clause-text : goal.returns-clause-text
returns-clause-text c = (c.in_ok-doc.doc, c.in_ok-doc.ensures.page, c.in_ok-text.ensures ∙ ap document_text c.tree.ensures)
