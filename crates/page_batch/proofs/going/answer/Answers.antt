use Rattle.std.proofs.Common.{◌∙◌, refl}
use Rattle.std.proofs.lemmas.Bool.{OnFalse_at}
use Rattle.core_definitions.specs.declared.event.Event.TheVariants as event
use Rattle.page_batch.proofs.GoingLemmas.{nears-by}
use Rattle.page_batch.proofs.TurnLemmas.{nears-last, same-last}
use Rattle.page_batch.proofs.going.answer.Goals as goal

pub returns-then-branch-clause-taken : goal.returns-then-branch-clause-taken
returns-then-branch-clause-taken g c = nears-by event.Send _ _ _ _ refl (λ n. n) c.if-branch.true c.in_ok-try_step.ensures.taken refl

pub returns-then-branch-2-clause-taken : goal.returns-then-branch-2-clause-taken
returns-then-branch-2-clause-taken g c =
    nears-by event.Pick _ _ _ _ refl (λ n. n) c.if-branch-2.true c.in_ok-try_step-2.ensures.taken (OnFalse_at c.if-branch.false c.in_ok-try_step.ensures.refused)

pub returns-then-branch-3-clause-taken : goal.returns-then-branch-3-clause-taken
returns-then-branch-3-clause-taken g c =
    nears-by event.Give _ _ _ _ refl (λ n. n) c.if-branch-3.true c.in_ok-try_step-3.ensures.taken
    (OnFalse_at c.if-branch-2.false c.in_ok-try_step-2.ensures.refused ∙ OnFalse_at c.if-branch.false c.in_ok-try_step.ensures.refused)

pub returns-clause-taken : goal.returns-clause-taken
returns-clause-taken g c =
    nears-last c.try_step-4.result event.Take _ _ _ refl (λ n. n)
    (OnFalse_at c.if-branch-3.false c.in_ok-try_step-3.ensures.refused ∙ (OnFalse_at c.if-branch-2.false c.in_ok-try_step-2.ensures.refused ∙ OnFalse_at c.if-branch.false c.in_ok-try_step.ensures.refused))
    c.try_step-4.ensures.taken

pub returns-clause-refused : goal.returns-clause-refused
returns-clause-refused g c =
    same-last c.try_step-4.result _ _ _
    (OnFalse_at c.if-branch-3.false c.in_ok-try_step-3.ensures.refused ∙ (OnFalse_at c.if-branch-2.false c.in_ok-try_step-2.ensures.refused ∙ OnFalse_at c.if-branch.false c.in_ok-try_step.ensures.refused))
    c.try_step-4.ensures.refused
