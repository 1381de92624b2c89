use Rattle.std.proofs.Common.{◌≡◌, ◌∙◌, ap, sym, subst, Some, None, arith}
use Rattle.std.proofs.lemmas.Bool.{OnTrue_at}
use Rattle.core_steps.specs.Journals.{found}
use Rattle.core_steps.specs.Fetches.{fetched_of}
use Rattle.page_batch.proofs.GoingLemmas.{goes-refl, goes-run}
use Rattle.page_batch.proofs.going.run_awaited.Goals as goal

pub returns-in_default-clause-goes : goal.returns-in_default-clause-goes
returns-in_default-clause-goes g c = goes-refl c.args.table.now c.args.pair.now c.args.text.now.items

pub returns-in_default-clause-ends : goal.returns-in_default-clause-ends
returns-in_default-clause-ends g c = subst (λ n. found n c.args.table.now ≡ None) c.as_str.ensures c.in_default.ensures.none

pub returns-then-branch-clause-goes : goal.returns-then-branch-clause-goes
returns-then-branch-clause-goes g c =
    let there = ap (λ n. found n c.args.table.now) (sym c.as_str.ensures) ∙ (c.in-Some.ensures.found ∙ ap Some (sym c.in_ok-fetch.ensures)) in
    goes-run c.args.table.now c.args.name (fetched_of c.in_ok-fetch.fetch) _ _ _ _ _ there c.in_ok-receive.ensures (OnTrue_at c.if-branch.true c.in_ok-act.ensures.taken).0

pub returns-then-branch-clause-ends : goal.returns-then-branch-clause-ends
returns-then-branch-clause-ends g c =
    let left = c.in_ok-receive.ensures.left in let less = (OnTrue_at c.if-branch.true c.in_ok-act.ensures.taken).1 in omega (arith, left, less)
