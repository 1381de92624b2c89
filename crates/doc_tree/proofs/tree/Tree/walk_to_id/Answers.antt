use Rattle.std.proofs.Common.{◌≡◌, ◌∷◌, [], ◌<◌, length, true, false, Some, None, arith, sym, ap, subst, ◌∙◌}
use Rattle.std.specs.Prelude.{find, ◌==◌}
use Rattle.std.specs.Str.{chars}
use Rattle.std.proofs.lemmas.Bool.{ne_eqb}
use Rattle.html_types.specs.declared.tree.Kind.{Kind}
use Rattle.standard.specs.Tree.{Nodes, attributes_of, attribute, is_value, has_id, find_id, after_node, first_of}
use Rattle.doc_tree.specs.Rows as rows
use Rattle.doc_tree.proofs.Trees.{document_top}
use Rattle.doc_tree.proofs.Order.{order_from}
use Rattle.doc_tree.proofs.Walks.{find-hit, find-miss, find_id-bare, find_id-some}
use Rattle.doc_tree.proofs.Siblings.{Step, step}
use Rattle.doc_tree.proofs.tree.Tree.walk_to_id.Goals as goal

pub returns-then-len-eq0-clause-found : goal.returns-then-len-eq0-clause-found
returns-then-len-eq0-clause-found c =
    let none : (length c.self.inside.nodes == 0) ≡ true = ap (λ k. k == 0) (sym c.len.ensures ∙ c.if-len-eq0.true) in
    subst (λ (t : Nodes). None ≡ find_id t (chars c.args.id.now)) c.self.view_is (sym (find_id-bare c.self.inside.nodes (chars c.args.id.now) none))

pub walk-init : goal.walk-init
walk-init c =
    let nodes = c.self.inside.nodes in
    let some : 0 < length nodes = omega (arith, c.len.ensures, c.if-len-eq0.false) in
    record {
      here = λ n same. let is : 0 ≡ n = cc in rw (← is) some;
      same = ap (find (has_id nodes (chars c.args.id.now))) (order_from nodes c.self.invariant 0 some (document_top nodes c.self.invariant));
    }

pub returns-then-has_id-clause-found : goal.returns-then-has_id-clause-found
returns-then-has_id-clause-found c =
    let nodes = c.self.inside.nodes in
    let text = chars c.args.id.now in
    let n = c.in-Some.node in
    let hit : has_id nodes text n ≡ true = ap (λ (k : Kind). is_value text (attribute (105 ∷ 100 ∷ []) (attributes_of k))) (sym c.kind.ensures) ∙ (sym c.has_id.ensures ∙ c.if-has_id.true) in
    let found : find_id nodes text ≡ Some n =
    find_id-some nodes c.args.id.now c.utf8.id (ne_eqb _ _ c.requires)
    ∙ c.walk.invariant.same ∙ ap (λ o. find (has_id nodes text) (rows.order_from nodes o)) c.in-Some.is ∙ find-hit (has_id nodes text) n _ hit in
    subst (λ (t : Nodes). Some n ≡ find_id t text) c.self.view_is (sym found)

turned : (c : goal.After-next-left) → Step c.self.inside.nodes c.walk.left c.next-left.result c.in-Some.node
turned c =
    let nodes = c.self.inside.nodes in
    step nodes c.self.invariant c.walk.left c.next-left.result c.in-Some.node c.in-Some.is (c.walk.invariant.here c.in-Some.node c.in-Some.is)
    (subst (λ (t : Nodes). c.next-left.result ≡ first_of (after_node t c.in-Some.node)) (sym c.self.view_is) c.next-left.ensures.next)

pub walk-smaller : goal.walk-smaller
walk-smaller c = let t = turned c in omega (arith, ap length t.same)

pub walk-preserved : goal.walk-preserved
walk-preserved c =
    let nodes = c.self.inside.nodes in
    let text = chars c.args.id.now in
    let t = turned c in
    let miss : has_id nodes text c.in-Some.node ≡ false = ap (λ (k : Kind). is_value text (attribute (105 ∷ 100 ∷ []) (attributes_of k))) (sym c.kind.ensures) ∙ (sym c.has_id.ensures ∙ c.if-has_id.false) in
    record { here = t.here; same = c.walk.invariant.same ∙ ap (find (has_id nodes text)) t.same ∙ find-miss (has_id nodes text) c.in-Some.node _ miss }

pub returns-clause-found : goal.returns-clause-found
returns-clause-found c =
    let nodes = c.self.inside.nodes in
    let text = chars c.args.id.now in
    let nothing : find_id nodes text ≡ None =
    find_id-some nodes c.args.id.now c.utf8.id (ne_eqb _ _ c.requires)
    ∙ c.walk.invariant.same ∙ ap (λ o. find (has_id nodes text) (rows.order_from nodes o)) c.in_default.is in
    subst (λ (t : Nodes). None ≡ find_id t text) c.self.view_is (sym nothing)
