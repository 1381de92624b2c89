use Rattle.std.proofs.Common.{◌≡◌, ◌∷◌, ◌++◌, ℕ, List, length, map, Option, Some, sym, ap, subst, ◌∙◌, append-nil, append_assoc, arith}
use Rattle.std.specs.List.{concat}
use Rattle.standard.specs.Tree.{parent_of, first_of}
use Rattle.standard.specs.Outer.{shown_in_text, outer_text}
use Rattle.doc_tree.specs.Rows.{siblings_from}
use Rattle.doc_tree.proofs.Siblings.{from_step}
use Rattle.doc_tree.proofs.Views.{node_here}
use Rattle.serialiser.proofs.Work.{under, frame, waiting-first, IsOpen, open_begun, open_after}
use Rattle.serialiser.proofs.walk.inner.Goals as goal

pub children-init : goal.children-init
children-init c =
    let t = c.args.tree.now in
    let n = c.args.node in
    let first : c.first_in_text-child.result ≡ first_of (shown_in_text t n) = c.first_in_text-child.ensures in
    record {
      shown = subst (λ (o : Option ℕ). IsOpen t (frame n o)) (sym first) (open_begun t c.len-nodes.ensures.tree n c.requires);
      whole =
          ap (λ (ys : List ℕ). ys ++ concat (map (outer_text t) (siblings_from t (under t n) c.first_in_text-child.result))) c.new-out.ensures
          ∙ ap (λ (ns : List ℕ). concat (map (outer_text t) ns)) (ap (siblings_from t (under t n)) first ∙ waiting-first t c.len-nodes.ensures.tree n);
    }

pub push_outer-requires : goal.push_outer-requires
push_outer-requires c =
    node_here c.args.tree.now c.in-Some.at (under c.args.tree.now c.args.node) (c.children.invariant.shown.here c.in-Some.at c.in-Some.is)

pub next_sibling-child-requires : goal.next_sibling-child-requires
next_sibling-child-requires c =
    node_here c.args.tree.now c.in-Some.at (under c.args.tree.now c.args.node) (c.children.invariant.shown.here c.in-Some.at c.in-Some.is)

pub children-smaller : goal.children-smaller
children-smaller c =
    let t = c.args.tree.now in
    let p : ℕ = under t c.args.node in
    let at : ℕ = c.in-Some.at in
    let steps : siblings_from t p c.children.child ≡ at ∷ siblings_from t p c.next_sibling-child.result =
    ap (siblings_from t p) c.in-Some.is
    ∙ (from_step t c.len-nodes.ensures.tree p at (c.children.invariant.shown.here at c.in-Some.is) ∙ ap (λ (o : Option ℕ). at ∷ siblings_from t p o) (sym c.next_sibling-child.ensures)) in
    omega (arith, ap length steps)

pub children-preserved : goal.children-preserved
children-preserved c =
    let t = c.args.tree.now in
    let n : ℕ = c.args.node in
    let p : ℕ = under t n in
    let at : ℕ = c.in-Some.at in
    let link : parent_of t at ≡ Some p = c.children.invariant.shown.here at c.in-Some.is in
    let rest : List ℕ = concat (map (outer_text t) (siblings_from t p c.next_sibling-child.result)) in
    let steps : siblings_from t p c.children.child ≡ at ∷ siblings_from t p c.next_sibling-child.result =
    ap (siblings_from t p) c.in-Some.is
    ∙ (from_step t c.len-nodes.ensures.tree p at link ∙ ap (λ (o : Option ℕ). at ∷ siblings_from t p o) (sym c.next_sibling-child.ensures)) in
    record {
      shown = subst (λ (o : Option ℕ). IsOpen t (frame n o)) (sym c.next_sibling-child.ensures) (open_after t c.len-nodes.ensures.tree n at c.children.invariant.shown.below link);
      whole =
          ap (λ (ys : List ℕ). ys ++ rest) c.in_ok-push_outer.ensures
          ∙ (append_assoc c.children.out (outer_text t at) rest
          ∙ (sym (ap (λ (ns : List ℕ). c.children.out ++ concat (map (outer_text t) ns)) steps) ∙ c.children.invariant.whole));
    }

pub returns : goal.returns
returns c =
    let t = c.args.tree.now in
    let p : ℕ = under t c.args.node in
    sym (append-nil c.children.out)
    ∙ (ap (λ (o : Option ℕ). c.children.out ++ concat (map (outer_text t) (siblings_from t p o))) (sym c.in_default.is) ∙ c.children.invariant.whole)
