use Rattle.std.proofs.Common.{◌++◌, ◌∷◌, [], ℕ, ◌∙◌, ap, subst}
use Rattle.std.specs.Str.{chars}
use Rattle.html_types.specs.Numbers.{place_of}
use Rattle.html_types.specs.declared.tree.Kind.{Kind}
use Rattle.html_types.specs.declared.tree.Kind.TheVariants as kind
use Rattle.standard.specs.Tree.{Nodes, IsTree, children_of, put_under, lone}
use Rattle.doc_tree.proofs.Trees.{IsTree-same, IsTree-with_new}
use Rattle.doc_tree.proofs.Siblings.{new_put, place-within}
use Rattle.doc_tree.proofs.tree.Tree.add_new_text.Goals as goal

pub link-requires-clause-kept : goal.link-requires-clause-kept
link-requires-clause-kept c =
    let t = c.args.self.now in
    let p = c.args.parent in
    let made_of : Kind = kind.Text (chars c.args.text.now) in
    let tree : IsTree t = subst IsTree c.self.view_is c.self.invariant in
    let made = c.in_ok-number.ensures.ok in
    IsTree-same _ _
    (IsTree-same _ _ (IsTree-with_new t p (place_of (children_of t p) c.args.before) made_of tree c.requires (place-within t tree p c.args.before)) (new_put t p c.args.before made_of tree))
    (ap (λ (s : Nodes). put_under s c.in_ok-number.number p c.args.before) made.1 ∙ ap (λ (k : ℕ). put_under (t ++ lone made_of ∷ []) k p c.args.before) made.0)
