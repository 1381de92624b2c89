use Rattle.std.proofs.Common.{◌≤◌, ◌∙◌, ap, sym, subst, arith}
use Rattle.std.proofs.lemmas.Bool.{OnTrue_at, OnFalse_at}
use Rattle.core_pair.specs.Pairs.{Paired, setup_of}
use Rattle.core_steps.specs.Sides.{left_to_do}
use Rattle.core_steps.specs.States.{standing_told}
use Rattle.parse_machine.specs.Ends.{result_of}
use Rattle.page_turns.proofs.LineLemmas.{ok_weaker}
use Rattle.page_batch.proofs.GoingLemmas.{goes-same, goes-more, goes-then, over-there}
use Rattle.page_batch.proofs.TurnLemmas.{turn-ok, goes-still}
use Rattle.page_batch.proofs.going.take_turn.Goals as goal

pub returns-then-branch-clause-goes : goal.returns-then-branch-clause-goes
returns-then-branch-clause-goes g c =
    goes-then _ _ _ _ _ _ _ (goes-same c.args.table.now _ _ c.args.text.now.items c.in_ok-settle.ensures.same) (goes-more c.args.table.now _ _ _ _ (OnTrue_at c.if-branch.true c.in_ok-act.ensures.taken).0)

pub returns-then-branch-clause-ends : goal.returns-then-branch-clause-ends
returns-then-branch-clause-ends g c =
    let left = c.in_ok-settle.ensures.left in let less = (OnTrue_at c.if-branch.true c.in_ok-act.ensures.taken).1 in omega (arith, left, less)

pub returns-in-Over-clause-goes : goal.returns-in-Over-clause-goes
returns-in-Over-clause-goes g c =
    let still = OnFalse_at c.if-branch.false c.in_ok-act.ensures.refused in
    goes-still c.args.table.now c.args.pair.now c.settle.new.pair c.act.new.pair c.args.text.now.items c.args.text.now.items c.act.new.text.items still.0 still.1
    (goes-same c.args.table.now _ _ c.args.text.now.items c.in_ok-settle.ensures.same)

pub returns-in-Over-clause-ends : goal.returns-in-Over-clause-ends
returns-in-Over-clause-ends g c =
    over-there (setup_of c.act.new.pair) c.act.new.pair.core (result_of c.in-Over.end)
    (ap standing_told (sym c.in-Over.is) ∙ c.status.ensures.told)

pub returns-clause-goes : goal.returns-clause-goes
returns-clause-goes g c =
    let still = OnFalse_at c.if-branch.false c.in_ok-act.ensures.refused in
    let before = goes-still c.args.table.now c.args.pair.now c.settle.new.pair c.act.new.pair c.args.text.now.items c.args.text.now.items c.act.new.text.items still.0 still.1
    (goes-same c.args.table.now _ _ c.args.text.now.items c.in_ok-settle.ensures.same) in
    ok_weaker c.run_awaited.result _ _ (λ goes. goes-then c.args.table.now _ _ _ _ _ _ before goes) c.run_awaited.ensures.goes

pub returns-clause-ends : goal.returns-clause-ends
returns-clause-ends g c =
    let still = OnFalse_at c.if-branch.false c.in_ok-act.ensures.refused in
    turn-ok c.run_awaited.result c.args.table.now c.args.pair.now c.act.new.pair c.run_awaited.new.pair
    (subst (λ (p : Paired). left_to_do p.core.desk ≤ left_to_do c.args.pair.now.core.desk) (sym still.0) c.in_ok-settle.ensures.left) c.run_awaited.ensures.ends
