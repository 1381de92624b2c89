use Rattle.std.proofs.Common.{◌≡◌, length}
use Rattle.standard.specs.Tree.{Keeps, children_of, all_out, emptied}
use Rattle.doc_tree.proofs.tree.Tree.take_children.Given as goal

-- what is left of the children makes of the tree what all of them make of it as it was
abbrev pub invariant-taking : goal.invariant-taking
invariant-taking l = record {
  keeps : Keeps l.fn.self l.self;
  same : all_out l.self (children_of l.self l.node) ≡ emptied l.fn.self l.node;
}

abbrev pub decreases-taking : goal.decreases-taking
decreases-taking l = length (children_of l.self l.node)
