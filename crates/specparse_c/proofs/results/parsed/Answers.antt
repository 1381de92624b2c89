use Rattle.std.proofs.Common.{Err, sym, ap, subst, ◌∙◌}
use Rattle.html_document.specs.declared.refused.Refused.{Refused}
use Rattle.specparse_c.specs.Calls.{FailsAtParse}
use Rattle.specparse_c.proofs.Failures.{fails-parse}
use Rattle.specparse_c.proofs.results.parsed.Goals as goal

pub returns-in-Err-clause-failure : goal.returns-in-Err-clause-failure
returns-in-Err-clause-failure c =
    subst (λ f. FailsAtParse c.args.table.now c.args.page.now f) (sym c.of.ensures)
    (fails-parse c.args.table.now c.args.page.now c.in-Err.refused (λ w is. c.parse.ensures.refused w (c.in-Err.is ∙ ap (λ (r : Refused). Err r) is)))
