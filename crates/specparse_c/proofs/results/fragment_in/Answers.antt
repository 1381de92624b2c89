use Rattle.std.proofs.Common.{Err, sym, ap, subst, ◌∙◌}
use Rattle.std.specs.Str.{chars}
use Rattle.html_document.specs.declared.refused.Refused.{Refused}
use Rattle.specparse_c.specs.Calls.{FailsAtDeep}
use Rattle.specparse_c.proofs.Failures.{fails-deep}
use Rattle.specparse_c.proofs.results.fragment_in.Goals as goal

pub returns-in-Ok-clause-fragment : goal.returns-in-Ok-clause-fragment
returns-in-Ok-clause-fragment c = (c.in-Ok.ensures.made, c.in-Ok.ensures.root)

pub returns-in-Err-clause-failure : goal.returns-in-Err-clause-failure
returns-in-Err-clause-failure c =
    subst (λ f. FailsAtDeep c.args.table.now c.args.context (chars c.args.source.now) f) (sym c.of.ensures)
    (fails-deep c.args.table.now c.args.context (chars c.args.source.now) c.in-Err.refused (λ w is. c.parse_fragment.ensures.refused w (c.in-Err.is ∙ ap (λ (r : Refused). Err r) is)))
