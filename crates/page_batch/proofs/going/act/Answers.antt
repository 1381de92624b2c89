use Rattle.std.proofs.Common.{◌<◌, refl, sym, subst}
use Rattle.std.proofs.lemmas.Bool.{OnTrue_at, OnFalse_at}
use Rattle.core_definitions.specs.Core.{Core}
use Rattle.core_steps.specs.Sides.{left_to_do}
use Rattle.page_batch.proofs.GoingLemmas.{goes-do}
use Rattle.page_batch.proofs.going.act.Goals as goal

pub returns-clause-taken : goal.returns-clause-taken
returns-clause-taken g c =
    let step = OnTrue_at c.if-not-branch.false c.in_ok-try_step.ensures.taken in (
      goes-do _ _ _ _ _ step c.in_ok-take_lines.ensures.goes,
      subst (λ (k : Core). left_to_do k.desk < left_to_do c.args.pair.now.core.desk) (sym c.in_ok-take_lines.ensures.core) step.nearer,
    )

pub returns-then-not-branch-clause-refused : goal.returns-then-not-branch-clause-refused
returns-then-not-branch-clause-refused g c = (OnFalse_at c.if-not-branch.true c.in_ok-try_step.ensures.refused, refl)
