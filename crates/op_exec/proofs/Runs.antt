-- A run of text does what its characters do one by one, at every place.
use Rattle.std.proofs.Common.{◌≡◌, ℕ, ◌<◌, List, [], ◌∷◌, length, map, true, Some, refl, ap, ◌∙◌, inl, inr}
use Rattle.std.specs.Option.{ForSome}
use Rattle.html_types.specs.declared.operation.NodeId.{NodeId}
use Rattle.html_types.specs.declared.operation.Place.{Place}
use Rattle.html_types.specs.declared.operation.Place.TheVariants.{Page, Inside, Contents, Foster}
use Rattle.html_types.specs.declared.operation.Op.TheVariants.{Text}
use Rattle.standard.specs.Tree.{Nodes, IsTree, parent_of, contents_of}
use Rattle.standard.specs.Act.{Bound, Doc, Spot, act, acts, node_of, is_bound, end_of, before_in, foster_spot, spot_of, text_at, IsPlaceBound}
use Rattle.op_exec.specs.Docs.{IsDoc}
use Rattle.doc_tree.proofs.Links.{cases_option}
use Rattle.doc_tree.proofs.Trees.{parent_below}
use Rattle.doc_tree.proofs.Folds.{contents_below}
use Rattle.doc_tree.proofs.Runs.{Step, text_step, text_more}
use Rattle.act_laws.proofs.Elements.{Alike-text_at}
use Rattle.op_exec.proofs.Docs.{IsPlain-node_of, IsDoc-kept}

-- a spot on this tree
pub record IsSpot (t : Nodes) (spot : Spot) : Type 0 where
  pub here : spot.parent < length t
  pub child : ForSome spot.before (λ b. parent_of t b ≡ Some spot.parent)

module _ (t : Nodes) (tree : IsTree t) where
  IsSpot-end : (n : ℕ) → n < length t → IsSpot t (end_of t n)
  IsSpot-end n below = elim (cases_option (contents_of t n)) [
    | inl none ↦ record { here = rw none below; child = λ b is. absurd (cc) }
    | inr some ↦ record { here = rw some.1 (contents_below t tree n some.0 some.1); child = λ b is. absurd (cc) }
  ]

  IsSpot-foster : (table above : ℕ) → table < length t → above < length t → IsSpot t (foster_spot t table above (parent_of t table))
  IsSpot-foster table above table_below above_below = elim (cases_option (parent_of t table)) [
    | inl none ↦ rw none (IsSpot-end above above_below)
    | inr link ↦ elim (cases_option (contents_of t link.0)) [
      | inl none ↦ rw (link.1, none) (record { here = parent_below t tree table link.0 link.1; child = λ b is. (let same : table ≡ b = cc in rw same at link.1) })
      | inr some ↦ rw (link.1, some.1) (record { here = contents_below t tree link.0 some.0 some.1; child = λ b is. absurd (cc) })
    ]
  ]

  -- a spot stays where it is when text is put somewhere
  module _ (s : Nodes) (step : Step t s) where
    end_of-step : (n : ℕ) → n < length t → end_of s n ≡ end_of t n
    end_of-step n below = rw (step.contents n below) refl

    foster_spot-step : (table above : ℕ) → table < length t → above < length t → foster_spot s table above (parent_of s table) ≡ foster_spot t table above (parent_of t table)
    foster_spot-step table above table_below above_below =
        ap (foster_spot s table above) (step.parents table table_below)
        ∙ elim (cases_option (parent_of t table)) [
          | inl none ↦ rw none (end_of-step above above_below)
          | inr link ↦ rw link.1 (ap (before_in link.0 table) (step.contents link.0 (parent_below t tree table link.0 link.1)))
        ]

module _ (bound : Bound) where
  here : (t : Nodes) (id : NodeId) → IsDoc t bound → is_bound bound id ≡ true → node_of bound id < length t
  here t id doc there = (IsPlain-node_of t bound id doc there).0

  IsSpot-spot_of : (t : Nodes) (place : Place) → IsTree t → IsDoc t bound → IsPlaceBound (is_bound bound) place → IsSpot t (spot_of (record { tree = t; bound = bound }) place)
  IsSpot-spot_of t Page tree doc there = IsSpot-end t tree 0 doc.document
  IsSpot-spot_of t (Inside id) tree doc there = IsSpot-end t tree (node_of bound id) (here t id doc there)
  IsSpot-spot_of t (Contents id) tree doc there = IsSpot-end t tree (node_of bound id) (here t id doc there)
  IsSpot-spot_of t (Foster table above) tree doc there = IsSpot-foster t tree (node_of bound table) (node_of bound above) (here t table doc there.0) (here t above doc there.1)

  spot_of-step : (t s : Nodes) (place : Place) → IsTree t → IsDoc t bound → Step t s → IsPlaceBound (is_bound bound) place
      → spot_of (record { tree = s; bound = bound }) place ≡ spot_of (record { tree = t; bound = bound }) place
  spot_of-step t s Page tree doc step there = end_of-step t tree s step 0 doc.document
  spot_of-step t s (Inside id) tree doc step there = end_of-step t tree s step (node_of bound id) (here t id doc there)
  spot_of-step t s (Contents id) tree doc step there = end_of-step t tree s step (node_of bound id) (here t id doc there)
  spot_of-step t s (Foster table above) tree doc step there =
      foster_spot-step t tree s step (node_of bound table) (node_of bound above) (here t table doc there.0) (here t above doc there.1)

  -- the document with a text put at the place
  abbrev with_text : Nodes → Place → List ℕ → Doc
  with_text t place text = record { tree = text_at t text (spot_of (record { tree = t; bound = bound }) place); bound = bound }

  pub run_is : (text : List ℕ) (t : Nodes) (place : Place) → IsTree t → IsDoc t bound → IsPlaceBound (is_bound bound) place
      → acts (record { tree = t; bound = bound }) (map (λ c. Text place (c ∷ [])) text) ≡ with_text t place text
  unfolding act acts
  run_is [] t place tree doc there = refl
  run_is (c ∷ cs) t place tree doc there =
      let spot = spot_of (record { tree = t; bound = bound }) place in
      let is = IsSpot-spot_of t place tree doc there in
      let s = text_at t (c ∷ []) spot in
      let step = text_step t spot.parent spot.before tree is.here is.child (c ∷ []) in
      let rest = run_is cs s place step.tree (IsDoc-kept t s bound doc step.keeps (Alike-text_at t (c ∷ []) spot)) there in
      rest
      ∙ ap (λ (x : Spot). record { tree = text_at s cs x; bound = bound }) (spot_of-step t s place tree doc step there)
      ∙ ap (λ (x : Nodes). record { tree = x; bound = bound }) (text_more t spot.parent spot.before tree is.here is.child c cs)
