use Rattle.std.proofs.Common.{◌≡◌, ◌++◌, length, map}
use Rattle.std.specs.List.{concat}
use Rattle.standard.specs.Outer.{outer_text, inner_text}
use Rattle.doc_tree.specs.Rows.{siblings_from}
use Rattle.serialiser.proofs.Work.{under, frame, IsOpen}
use Rattle.serialiser.proofs.walk.inner.Given as goal

-- what is written and the texts of the nodes that are left to show make the whole
abbrev pub invariant-children : goal.invariant-children
invariant-children l = record {
  shown : IsOpen l.tree (frame l.node l.child);
  whole : l.out ++ concat (map (outer_text l.tree) (siblings_from l.tree (under l.tree l.node) l.child)) ≡ inner_text l.tree l.node;
}

abbrev pub decreases-children : goal.decreases-children
decreases-children l = length (siblings_from l.tree (under l.tree l.node) l.child)
