use Rattle.std.proofs.Common.{◌≡◌, ◌<◌, true, false, length, sym, ap, ◌∙◌, subst, inl, inr, arith}
use Rattle.std.specs.Prelude.{codes}
use Rattle.std.specs.Bool.{then_some}
use Rattle.std.specs.Str.{chars}
use Rattle.std.proofs.lemmas.Bool.{cases_Bool}
use Rattle.html_types.specs.declared.tree.Kind.{Kind}
use Rattle.standard.specs.Tree.{Nodes, IsTree, kind_of, attributes_of, attribute, is_value, has_id}
use Rattle.doc_tree.proofs.HolderLemmas.{find_id-missed, find_id-past, find_id-there, find_id-apart}
use Rattle.doc_tree.proofs.tree.Tree.only_holder.Goals as goal

pub returns-then-node-len-clause-found : goal.returns-then-node-len-clause-found
returns-then-node-len-clause-found c =
    let tree = subst IsTree c.self.view_is c.self.invariant in
    sym (find_id-past c.args.self.now tree c.args.id.now c.utf8.id c.requires.some c.args.node c.requires.only (omega (arith, c.len.ensures, ap length c.self.view_is)))

pub returns-then-not-has_id-clause-found : goal.returns-then-not-has_id-clause-found
returns-then-not-has_id-clause-found c =
    let text = chars c.args.id.now in
    let tree = subst IsTree c.self.view_is c.self.invariant in
    let kind = c.kind.ensures ∙ ap (λ (t : Nodes). kind_of t c.args.node) c.self.view_is in
    let miss : has_id c.args.self.now text c.args.node ≡ false =
    ap (λ (k : Kind). is_value text (attribute (codes "id") (attributes_of k))) (sym kind) ∙ (sym c.has_id.ensures ∙ c.if-not-has_id.true) in
    sym (find_id-missed c.args.self.now tree c.args.id.now c.utf8.id c.requires.some c.args.node c.requires.only miss)

pub returns-clause-found : goal.returns-clause-found
returns-clause-found c =
    let text = chars c.args.id.now in
    let tree = subst IsTree c.self.view_is c.self.invariant in
    let below : c.args.node < length c.args.self.now = omega (arith, c.len.ensures, ap length c.self.view_is) in
    let kind = c.kind.ensures ∙ ap (λ (t : Nodes). kind_of t c.args.node) c.self.view_is in
    let hit : has_id c.args.self.now text c.args.node ≡ true =
    ap (λ (k : Kind). is_value text (attribute (codes "id") (attributes_of k))) (sym kind) ∙ (sym c.has_id.ensures ∙ c.if-not-has_id.false) in
    c.then_some.ensures
    ∙ elim (cases_Bool c.connected.result) [
      | inl yes' ↦
          let there = find_id-there c.args.self.now tree c.args.id.now c.utf8.id c.requires.some c.args.node c.requires.only below hit (sym c.connected.ensures ∙ yes') in
          ap (λ b. then_some b c.args.node) yes' ∙ sym there
      | inr no' ↦
          let away = find_id-apart c.args.self.now tree c.args.id.now c.utf8.id c.requires.some c.args.node c.requires.only below (sym c.connected.ensures ∙ no') in
          ap (λ b. then_some b c.args.node) no' ∙ sym away
    ]
