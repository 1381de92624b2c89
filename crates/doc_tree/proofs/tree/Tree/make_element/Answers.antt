use Rattle.doc_tree.proofs.Trees.{IsTree-same, IsTree-push}
use Rattle.doc_tree.proofs.tree.Tree.make_element.Goals as goal

pub invariant_of-self-2 : goal.invariant_of-self-2
invariant_of-self-2 c = IsTree-same _ _ (IsTree-push _ _ c.self.invariant) c.in_ok-number.ensures.ok.1
