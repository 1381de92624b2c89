use Rattle.std.proofs.Common.{◌≡◌, ◌<◌, ◌+◌, ℕ, suc, length, None, Some, sym, ap, ◌∙◌, arith}
use Rattle.doc_tree.specs.Rows.{order_from}
use Rattle.core_steps.specs.Tallies.{nodes_below}
use Rattle.core_steps.proofs.Nodes.{from_next, next_below, counted_all, counted_most}
use Rattle.core_steps.proofs.tally.count_nodes.Goals as goal

pub loop-nodes-init : goal.loop-nodes-init
loop-nodes-init c =
    let t = c.args.tree.now in
    let some : 0 < length t = omega (arith, c.len.ensures.len, c.if-len-eq0.false) in
    record {
      here = λ n is. next_below t c.len.ensures.tree 0 n some (sym c.next-left.ensures.next ∙ is);
      all = (let e : length (order_from t c.next-left.result) ≡ nodes_below t = ap (λ o. length (order_from t o)) c.next-left.ensures.next ∙ ap (λ ns. length ns) (from_next t c.len.ensures.tree 0 some) in omega (arith, e));
    }

pub returns-in-None : goal.returns-in-None
returns-in-None c =
    let t = c.args.tree.now in
    let none : length (order_from t c.loop-nodes.left) ≡ 0 = ap (λ o. length (order_from t o)) c.in-None.is in
    counted_all c.loop-nodes.nodes (nodes_below t) 18446744073709551615 c.loop-nodes.auto.nodes-end (omega (arith, none, c.loop-nodes.invariant.all))

pub next-left-requires-in-Some : goal.next-left-requires-in-Some
next-left-requires-in-Some c = c.loop-nodes.invariant.here c.in-Some.node c.in-Some.is

pub loop-nodes-preserved : goal.loop-nodes-preserved
loop-nodes-preserved c =
    let t = c.args.tree.now in
    let node = c.in-Some.node in
    let below = c.loop-nodes.invariant.here node c.in-Some.is in
    let was : length (order_from t c.loop-nodes.left) ≡ length (order_from t (Some node)) = ap (λ o. length (order_from t o)) c.in-Some.is in
    let now : suc (length (order_from t c.next-left-in-Some.result)) ≡ length (order_from t (Some node)) =
    ap (λ o. suc (length (order_from t o))) c.next-left-in-Some.ensures.next ∙ ap (λ ns. suc (length ns)) (from_next t c.len.ensures.tree node below) in
    record {
      here = λ n is. next_below t c.len.ensures.tree node n below (sym c.next-left-in-Some.ensures.next ∙ is);
      all = omega (arith, was, now, c.loop-nodes.invariant.all);
    }

pub returns : goal.returns
returns c = counted_most (nodes_below c.args.tree.now) 18446744073709551615 (omega (arith, c.loop-nodes-test.false, c.loop-nodes.invariant.all))
