use Rattle.std.proofs.Common.{◌≡◌, ℕ, [], ◌∷◌, map, Option, sym, ap, subst, ◌∙◌}
use Rattle.std.specs.Str.{chars}
use Rattle.html_types.specs.Numbers.{place_of}
use Rattle.html_types.specs.declared.operation.Op.TheVariants as op
use Rattle.standard.specs.Tree.{Nodes, IsTree, children_of, text_added}
use Rattle.standard.specs.Act.{Spot, Doc, acts, is_bound, spot_of, text_at, IsPlaceBound}
use Rattle.act_laws.proofs.Elements.{Alike-text_at}
use Rattle.op_exec.proofs.Docs.{IsDoc-done}
use Rattle.op_exec.proofs.Runs.{run_is}
use Rattle.op_exec.proofs.doc.Doc.text.Goals as goal

pub invariant_of-self-2 : goal.invariant_of-self-2
invariant_of-self-2 c =
    let spot : Spot = record { parent = c.spot-spot.result.parent; before = c.spot-spot.result.before } in
    IsDoc-done c.add_text.result c.self.inside.tree c.add_text.new.self (text_at c.self.inside.tree (chars c.args.text.now) spot) c.self.inside.bound c.self.invariant
    c.add_text.ensures.keeps c.add_text.ensures.ok c.add_text.ensures.err (Alike-text_at c.self.inside.tree (chars c.args.text.now) spot)

pub returns-clause-ok : goal.returns-clause-ok
returns-clause-ok c =
    let t = c.self.inside.tree in
    let bound = c.self.inside.bound in
    let d : Doc = record { tree = t; bound = bound } in
    let place = c.args.place in
    let text = chars c.args.text.now in
    let spot = c.spot-spot.result in
    let tree : IsTree t = subst (λ (x : Doc). IsTree x.tree) (sym c.self.view_is) c.spot-spot.ensures.tree in
    let there : IsPlaceBound (is_bound bound) place = subst (λ (x : Doc). IsPlaceBound (is_bound x.bound) place) (sym c.self.view_is) c.requires in
    let parent : spot.parent ≡ (spot_of d place).parent = subst (λ (x : Doc). spot.parent ≡ (spot_of x place).parent) (sym c.self.view_is) c.spot-spot.ensures.parent in
    let before : spot.before ≡ (spot_of d place).before = subst (λ (x : Doc). spot.before ≡ (spot_of x place).before) (sym c.self.view_is) c.spot-spot.ensures.before in
    let wrote : c.add_text.new.self ≡ text_at t text (spot_of d place) =
    c.in_ok-add_text.ensures.ok
    ∙ ap (λ (p : ℕ). text_added t p (place_of (children_of t p) spot.before) text) parent
    ∙ ap (λ (b : Option ℕ). text_added t (spot_of d place).parent (place_of (children_of t (spot_of d place).parent) b) text) before in
    let whole = ap (λ (x : Nodes). let y : Doc = record { tree = x; bound = bound } in y) wrote ∙ sym (run_is bound text t place tree c.self.invariant there) in
    subst (λ (x : Doc). record { tree = c.add_text.new.self; bound = bound } ≡ acts x (map (λ k. op.Text place (k ∷ [])) text)) c.self.view_is whole
