use Rattle.std.proofs.Common.{◌≡◌, ◌<◌, Some, length, refl, sym, ap, ◌∙◌, subst, arith}
use Rattle.standard.specs.Tree.{Nodes, IsTree, children_of, first_of, all_out, emptied}
use Rattle.doc_tree.proofs.MovingAll.{keeps_twice}
use Rattle.doc_tree.proofs.Emptying.{emptied-turn, fewer-left, first-below}
use Rattle.doc_tree.proofs.tree.Tree.take_children.Goals as goal
use Rattle.doc_tree.proofs.tree.Tree.take_children.Goals.{In-Some}

pub taking-init : goal.taking-init
unfolding emptied
taking-init c = record { keeps = record { nodes = omega arith; hosts = λ n below. refl }; same = refl }

tree : (c : In-Some) → IsTree c.taking.self
tree c = subst IsTree c.self.view_is c.self.invariant

first : (c : In-Some) → Some c.in-Some.child ≡ first_of (children_of c.taking.self c.args.node)
first c = sym c.in-Some.is ∙ subst (λ (s : Nodes). c.first_child.result ≡ first_of (children_of s c.args.node)) c.self.view_is c.first_child.ensures

here : (c : In-Some) → c.in-Some.child < length c.taking.self
here c = first-below c.taking.self (tree c) c.args.node c.in-Some.child (first c)

pub detach-requires : goal.detach-requires
detach-requires c = here (goal.at.detach-requires c).In-Some

then_tree : (c : goal.After-detach) → IsTree c.taking.self
then_tree c = subst IsTree c.self.view_is c.self.invariant

then_first : (c : goal.After-detach) → Some c.in-Some.child ≡ first_of (children_of c.taking.self c.args.node)
then_first c = sym c.in-Some.is ∙ subst (λ (s : Nodes). c.first_child.result ≡ first_of (children_of s c.args.node)) c.self.view_is c.first_child.ensures

then_here : (c : goal.After-detach) → c.in-Some.child < length c.taking.self
then_here c = first-below c.taking.self (then_tree c) c.args.node c.in-Some.child (then_first c)

pub taking-smaller : goal.taking-smaller
taking-smaller c =
    subst (λ (s : Nodes). length (children_of s c.args.node) < length (children_of c.taking.self c.args.node)) (sym c.detach.ensures.node)
    (fewer-left c.taking.self (then_tree c) c.args.node c.in-Some.child (then_here c) (then_first c))

pub taking-preserved : goal.taking-preserved
taking-preserved c = record {
  keeps = keeps_twice c.args.self.now c.taking.self c.detach.new.self c.taking.invariant.keeps c.detach.ensures.keeps;
  same = ap (λ (s : Nodes). all_out s (children_of s c.args.node)) c.detach.ensures.node ∙ (emptied-turn c.taking.self (then_tree c) c.args.node c.in-Some.child (then_here c) (then_first c) ∙ c.taking.invariant.same);
}
