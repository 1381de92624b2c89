use Rattle.std.proofs.lemmas.Result.{err_from_is_err_and}
use Rattle.specparse_c.proofs.Prepared.{are-prepared}
use Rattle.specparse_c.proofs.results.entities.Goals as goal

pub returns-in_err-bytes-clause-failure : goal.returns-in_err-bytes-clause-failure
returns-in_err-bytes-clause-failure c =
    let p = err_from_is_err_and c.from_residual-in_err-bytes.result c.from_residual-in_err-bytes.ensures.1 in
    rw (p.1, p.2) tt

pub returns-clause-prepared : goal.returns-clause-prepared
returns-clause-prepared c = are-prepared c.args.entities.now c.in_ok-bytes.bytes.items c.in_ok-table.table c.in_ok-table.ensures.table c.in_ok-bytes.ensures
