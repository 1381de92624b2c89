use Rattle.std.proofs.Common.{◌≡◌, ◌<◌, ◌+◌, ℕ, Some, length}
use Rattle.doc_tree.specs.Rows.{order_from}
use Rattle.core_steps.specs.Tallies.{nodes_below}
use Rattle.core_steps.proofs.tally.count_nodes.Given as goal

-- those that are counted, and those from here on, are all
abbrev pub invariant-loop-nodes : goal.invariant-loop-nodes
invariant-loop-nodes l = record {
  here : (n : ℕ) → l.left ≡ Some n → n < length l.tree;
  all : l.nodes + length (order_from l.tree l.left) ≡ nodes_below l.tree;
}
