use Rattle.std.proofs.Common.{◌==◌, ℕ, List, subst}
use Rattle.std.proofs.Math.Path.{fun_ext}
use Rattle.std.proofs.lemmas.Result.{err_from_is_err_and}
use Rattle.memory_runner.specs.Runs.{Runs}
use Rattle.specparse_c.proofs.RunLemmas.{flags-run, scripts-run, table-run}
use Rattle.specparse_c.proofs.running.ran.Goals as goal

pub returns-in_err-are_known-clause-failure : goal.returns-in_err-are_known-clause-failure
returns-in_err-are_known-clause-failure c =
    let p = err_from_is_err_and c.from_residual.result c.from_residual.ensures.1 in
    rw (p.1, p.2) (flags-run c.args.entities.now c.args.bytes.now c.args.rows.now c.args.flags _ c.in_err-are_known.ensures.failure)

pub returns-in_err-scripts-clause-failure : goal.returns-in_err-scripts-clause-failure
returns-in_err-scripts-clause-failure c =
    let p = err_from_is_err_and c.from_residual-in_err-scripts.result c.from_residual-in_err-scripts.ensures.1 in
    rw (p.1, p.2) (scripts-run c.args.entities.now c.args.bytes.now c.args.rows.now c.args.flags _ c.in_err-scripts.ensures.failure)

pub returns-in_err-table-clause-failure : goal.returns-in_err-table-clause-failure
returns-in_err-table-clause-failure c =
    let p = err_from_is_err_and c.from_residual-in_err-table.result c.from_residual-in_err-table.ensures.1 in
    rw (p.1, p.2) (table-run c.args.entities.now c.args.bytes.now c.args.rows.now c.args.flags _ c.in_err-table.ensures.failure)

pub returns-in_err-ran-clause-failure : goal.returns-in_err-ran-clause-failure
returns-in_err-ran-clause-failure c =
    let p = err_from_is_err_and c.from_residual-in_err-ran.result c.from_residual-in_err-ran.ensures.1 in
    rw (p.1, p.2) tt

pub returns-clause-ran : goal.returns-clause-ran
returns-clause-ran c =
    let ran = c.in_ok-ran.ran in (
      c.in_ok-table.table,
      c.in_ok-table.ensures.table,
      subst (λ s. Runs c.in_ok-table.table s c.args.page.now (c.args.flags == 1) ran) (fun_ext (λ (name : List ℕ). c.in_ok-scripts.ensures.scripts name)) c.in_ok-ran.ensures,
    )
