use Rattle.std.proofs.Common.{◌≤◌, sym, subst, arith}
use Rattle.std.proofs.lemmas.Bool.{OnTrue_at, OnFalse_at}
use Rattle.core_pair.specs.Pairs.{Paired}
use Rattle.core_steps.specs.Sides.{left_to_do}
use Rattle.page_batch.specs.Going.{SamePage}
use Rattle.page_batch.proofs.GoingLemmas.{same-refl-page, same-then}
use Rattle.page_batch.proofs.going.settle.Goals as goal

pub answers-init : goal.answers-init
answers-init g c = record { same = same-refl-page c.args.pair.now; left = omega arith }

pub answers-preserved : goal.answers-preserved
answers-preserved g c =
    let nears = OnTrue_at c.if-branch.true c.in_ok-answer.ensures.taken in
    record { same = same-then _ _ _ c.answers.invariant.same nears.same; left = omega (arith, nears.nears.0, c.answers.invariant.left) }

pub answers-smaller : goal.answers-smaller
answers-smaller g c = (OnTrue_at c.if-branch.true c.in_ok-answer.ensures.taken).nears.1

pub returns-clause-same : goal.returns-clause-same
returns-clause-same g c = subst (λ p. SamePage c.args.pair.now p) (sym (OnFalse_at c.if-branch.false c.in_ok-answer.ensures.refused)) c.answers.invariant.same

pub returns-clause-left : goal.returns-clause-left
returns-clause-left g c =
    subst (λ (p : Paired). left_to_do p.core.desk ≤ left_to_do c.args.pair.now.core.desk) (sym (OnFalse_at c.if-branch.false c.in_ok-answer.ensures.refused)) c.answers.invariant.left
