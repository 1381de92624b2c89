use Rattle.std.proofs.Common.{refl, subst}
use Rattle.html_document.specs.Flat.{Shows}
use Rattle.std.proofs.lemmas.Result.{err_from_is_err_and}
use Rattle.specparse_c.proofs.results.page.Goals as goal

pub returns-in_err-flat-clause-failure : goal.returns-in_err-flat-clause-failure
returns-in_err-flat-clause-failure c =
    let p = err_from_is_err_and c.from_residual-in_err-flat.result c.from_residual-in_err-flat.ensures.1 in
    rw (p.1, p.2) tt

pub returns-clause-page : goal.returns-clause-page
returns-clause-page c =
    let f = c.in_ok-flat.flat in
    (c.in_ok-doc.doc, c.in_ok-doc.ensures.page, subst (λ t. Shows t f.nodes.items f.attributes.items f.text.items) c.tree.ensures c.in_ok-flat.ensures, refl)
