use Rattle.std.proofs.Common.{sym, subst}
use Rattle.specparse_c.specs.Calls.{FailsAtTable}
use Rattle.specparse_c.proofs.Failures.{fails-table}
use Rattle.specparse_c.proofs.results.table_of.Goals as goal

pub returns-in-Err-clause-failure : goal.returns-in-Err-clause-failure
returns-in-Err-clause-failure c =
    subst (λ f. FailsAtTable c.args.entities.now f) (sym c.at.ensures) (fails-table c.args.entities.now c.in-Err.fault c.table_in.result c.in-Err.is c.table_in.ensures.no_table)
