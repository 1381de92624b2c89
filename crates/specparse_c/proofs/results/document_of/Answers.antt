use Rattle.std.proofs.lemmas.Result.{err_from_is_err_and}
use Rattle.specparse_c.proofs.Failures.{table-page, parse-page}
use Rattle.specparse_c.proofs.results.document_of.Goals as goal

pub returns-in_err-table-clause-failure : goal.returns-in_err-table-clause-failure
returns-in_err-table-clause-failure c =
    let p = err_from_is_err_and c.from_residual.result c.from_residual.ensures.1 in
    rw (p.1, p.2) (table-page c.args.entities.now c.args.page.now _ c.in_err-table.ensures.failure)

pub returns-in_err-doc-clause-failure : goal.returns-in_err-doc-clause-failure
returns-in_err-doc-clause-failure c =
    let p = err_from_is_err_and c.from_residual-in_err-doc.result c.from_residual-in_err-doc.ensures.1 in
    rw (p.1, p.2) (parse-page c.args.entities.now c.args.page.now c.in_ok-table.table _ c.in_ok-table.ensures.table c.in_err-doc.ensures.failure)

pub returns-clause-page : goal.returns-clause-page
returns-clause-page c = (c.in_ok-table.table, c.in_ok-table.ensures.table, c.in_ok-doc.ensures.page)
