-- A fragment's nodes beside a document's.
use Rattle.std.proofs.Common.{◌≡◌, ℕ, Bool, true, false, List, [], ◌∷◌, ◌++◌, Result, Ok, Err, OnOk, OnErr, map, refl, sym, ap, subst, ◌∙◌, append-nil, arith}
use Rattle.std.specs.Prelude.{◌||◌, if◌then◌else◌}
use Rattle.std.specs.Map.{values_of}
use Rattle.html_types.specs.declared.operation.NodeId.{NodeId}
use Rattle.html_types.specs.declared.operation.Op.{Op}
use Rattle.html_types.specs.declared.operation.Op.TheVariants.{Make, Put, Text, Comment, Doctype, Detach, MoveChildren, AddAttributes}
use Rattle.html_types.specs.declared.operation.Place.{Place}
use Rattle.html_types.specs.declared.operation.Place.TheVariants.{Page, Inside, Contents, Foster}
use Rattle.html_types.specs.Operations.{same_id, spelled_one}
use Rattle.standard.specs.Tree.{Nodes, children_of, detached, all_out, emptied}
use Rattle.standard.specs.Act.{Bound, Doc, is_bound, act, acts, known_after, IsPlaceBound, AreOpsBound}
use Rattle.standard.specs.Fragment.{root_id, roots_made, place_in_root, all_in_root, with_fragment, exchanged, filled}
use Rattle.act_laws.specs.Staying.{Stays}
use Rattle.act_laws.proofs.Elements.{Alike, Alike-detached}
use Rattle.act_laws.proofs.Known.{known_after-is}
use Rattle.act_laws.proofs.Staying.{same, Stays-acts, Stays-all_out}
use Rattle.op_exec.specs.Docs.{IsPlain, IsDoc, IsDoneInPart, html_made, form_made}
use Rattle.op_exec.proofs.Docs.{IsPlain-kept}
use Rattle.op_exec.proofs.Lists.{acts-append, AreOpsBound-append}
use Rattle.std.proofs.lemmas.List.Elements.{All-weaker}

Alike-all_out : (t : Nodes) (cs : List ℕ) → Alike t (all_out t cs)
Alike-all_out t [] n = refl
Alike-all_out t (c ∷ cs) n = Alike-all_out (detached t c) cs n ∙ Alike-detached t c n

pub Alike-emptied : (t : Nodes) (p : ℕ) → Alike t (emptied t p)
unfolding emptied
Alike-emptied t p = Alike-all_out t (children_of t p)

pub Stays-emptied : (t : Nodes) (p : ℕ) → Stays t (emptied t p)
unfolding emptied
Stays-emptied t p = Stays-all_out t (children_of t p)

pub Stays-done : {T E : Type 0} (r : Result T E) (t s made : Nodes) → OnOk r (s ≡ made) → OnErr r (s ≡ t) → Stays t made → Stays t s
Stays-done (Ok x) t s made is failed h = subst (Stays t) (sym is) h
Stays-done (Err e) t s made is failed h = subst (Stays t) (sym failed) (same t)

pub Stays-part : (d e : Doc) (ops : List Op) → IsDoneInPart d e ops → Stays d.tree e.tree
Stays-part d e ops part = subst (λ (x : Doc). Stays d.tree x.tree) (sym part.result) (Stays-acts d part.done)

-- the page's map again, beside a tree in which the nodes stayed
pub IsDoc-again : (t s : Nodes) (bound other : Bound) → IsDoc t bound → IsDoc s other → Stays t s → IsDoc s bound
IsDoc-again t s bound other doc now stays = record {
  document = now.document;
  plain = All-weaker (IsPlain t) (IsPlain s) (λ n plain. IsPlain-kept t s n (record { nodes = stays.nodes; hosts = stays.hosts }) plain) (values_of bound) doc.plain;
  one_to_one = doc.one_to_one;
  elements = now.elements;
}

-- no id stands for anything
pub IsDoc-none : (t : Nodes) (old now : Bound) → now ≡ [] → IsDoc t old → IsDoc t now
IsDoc-none t old now none doc =
    subst (IsDoc t) (sym none) (record { document = doc.document; plain = λ k n below. absurd (omega arith); one_to_one = λ a b n one two. absurd (cc one); elements = doc.elements })

-- ---- what is bound

or-true : (a b : Bool) → b ≡ true → (a || b) ≡ true
or-true true b is = refl
or-true false b is = is

known-stays : (known : NodeId → Bool) (o : Op) (q : NodeId) → known q ≡ true → known_after known o q ≡ true
known-stays known (Make id name as') q is = or-true (same_id q id) (known q) is
known-stays known (Put id place) q is = is
known-stays known (Text place text) q is = is
known-stays known (Comment place text) q is = is
known-stays known (Doctype name) q is = is
known-stays known (Detach id) q is = is
known-stays known (MoveChildren from to) q is = is
known-stays known (AddAttributes id attributes) q is = is

bound-stays : (d : Doc) (ops : List Op) (q : NodeId) → is_bound d.bound q ≡ true → is_bound (acts d ops).bound q ≡ true
unfolding acts
bound-stays d [] q is = is
bound-stays d (o ∷ os) q is = bound-stays (act d o) os q (sym (known_after-is d o q) ∙ known-stays (is_bound d.bound) o q is)

roots-bound : (d m : Doc) (form : Bool) → m ≡ acts d (roots_made form) → is_bound m.bound (root_id 0) ≡ true
unfolding acts
roots-bound d m form first =
    let made : is_bound (act d html_made).bound (root_id 0) ≡ true = sym (known_after-is d (html_made) (root_id 0)) in
    ap (λ (x : Doc). is_bound x.bound (root_id 0)) first ∙ bound-stays (act d html_made) (if form then form_made ∷ [] else []) (root_id 0) made

pub root-bound : (d m e : Doc) (form : Bool) (ops : List Op) → m ≡ acts d (roots_made form) → e ≡ acts m ops → is_bound e.bound (root_id 0) ≡ true
root-bound d m e form ops first next =
    ap (λ (x : Doc). is_bound x.bound (root_id 0)) next ∙ bound-stays m ops (root_id 0) (roots-bound d m form first)

-- ---- in the root

place-bound : (known : NodeId → Bool) (place : Place) → known (root_id 0) ≡ true → IsPlaceBound known place → IsPlaceBound known (place_in_root place)
place-bound known Page root bound = root
place-bound known (Inside id) root bound = bound
place-bound known (Contents id) root bound = bound
place-bound known (Foster table above) root bound = bound

in_root-bound : (known : NodeId → Bool) (ops : List Op) → known (root_id 0) ≡ true → AreOpsBound known ops → AreOpsBound known (all_in_root ops)
unfolding AreOpsBound
in_root-bound known [] root bound = tt
in_root-bound known (Make id name as' ∷ os) root bound =
    (bound.0, in_root-bound (known_after known (Make id name as')) os (known-stays known (Make id name as') (root_id 0) root) bound.1)
in_root-bound known (Put id place ∷ os) root bound = ((bound.0.0, place-bound known place root bound.0.1), in_root-bound known os root bound.1)
in_root-bound known (Text place text ∷ os) root bound = (place-bound known place root bound.0, in_root-bound known os root bound.1)
in_root-bound known (Comment place text ∷ os) root bound = (place-bound known place root bound.0, in_root-bound known os root bound.1)
in_root-bound known (Doctype name ∷ os) root bound = in_root-bound known os root bound.1
in_root-bound known (Detach id ∷ os) root bound = (bound.0, in_root-bound known os root bound.1)
in_root-bound known (MoveChildren from to ∷ os) root bound = (bound.0, in_root-bound known os root bound.1)
in_root-bound known (AddAttributes id as' ∷ os) root bound = (bound.0, in_root-bound known os root bound.1)

roots-alone : (d m : Doc) (form : Bool) → d.bound ≡ [] → m ≡ acts d (roots_made form) → m ≡ with_fragment d.tree form []
roots-alone d m form none first =
    first ∙ (ap (λ (b : Bound). acts (record { tree = d.tree; bound = b }) (roots_made form)) none ∙ ap (acts (record { tree = d.tree; bound = [] })) (sym (append-nil (roots_made form))))

-- the fragment's operations can be executed there, behind the roots
pub rooted-bound : (d m : Doc) (form : Bool) (ops : List Op) → d.bound ≡ [] → m ≡ acts d (roots_made form) → AreOpsBound (is_bound (with_fragment d.tree form []).bound) ops
    → AreOpsBound (is_bound m.bound) (all_in_root ops)
rooted-bound d m form ops none first bound =
    in_root-bound (is_bound m.bound) ops (roots-bound d m form first) (subst (λ (x : Doc). AreOpsBound (is_bound x.bound) ops) (sym (roots-alone d m form none first)) bound)

pub fragment-made : (d m e : Doc) (form : Bool) (ops : List Op) → d.bound ≡ [] → m ≡ acts d (roots_made form) → e ≡ acts m (all_in_root ops) → e ≡ with_fragment d.tree form ops
fragment-made d m e form ops none first next =
    next
    ∙ (ap (λ (x : Doc). acts x (all_in_root ops)) first
    ∙ (sym (acts-append d (roots_made form) (all_in_root ops)) ∙ ap (λ (b : Bound). acts (record { tree = d.tree; bound = b }) (roots_made form ++ all_in_root ops)) none))

-- ---- the operations of both in one list

roots-fit : (form : Bool) → AreOpsBound (is_bound []) (roots_made form)
unfolding AreOpsBound
roots-fit true = (refl, (refl, tt))
roots-fit false = (refl, tt)

module _ (d : Doc) (form : Bool) (ops all : List Op) (is : all ≡ roots_made form ++ all_in_root ops) where
  abbrev roots : Doc
  roots = acts d (roots_made form)

  pub fragment-fits : d.bound ≡ [] → AreOpsBound (is_bound (with_fragment d.tree form []).bound) ops → AreOpsBound (is_bound d.bound) all
  fragment-fits none bound =
      let first : AreOpsBound (is_bound d.bound) (roots_made form) = subst (λ (b : Bound). AreOpsBound (is_bound b) (roots_made form)) (sym none) (roots-fit form) in
      subst (AreOpsBound (is_bound d.bound)) (sym is) (AreOpsBound-append d (roots_made form) (all_in_root ops) first (rooted-bound d roots form ops none refl bound))

  behind-roots : (e : Doc) → e ≡ acts d all → e ≡ acts roots (all_in_root ops)
  behind-roots e done = done ∙ (ap (acts d) is ∙ acts-append d (roots_made form) (all_in_root ops))

  pub fragment-done : (e : Doc) → d.bound ≡ [] → e ≡ acts d all → e ≡ with_fragment d.tree form ops
  fragment-done e none done = fragment-made d roots e form ops none refl (behind-roots e done)

  pub fragment-root : (e : Doc) → e ≡ acts d all → is_bound e.bound (root_id 0) ≡ true
  fragment-root e done = root-bound d roots e form (all_in_root ops) refl (behind-roots e done)

run-in_root : (place : Place) (text : List ℕ) → all_in_root (map (λ c. Text place (c ∷ [])) text) ≡ map (λ c. Text (place_in_root place) (c ∷ [])) text
run-in_root place [] = refl
run-in_root place (c ∷ cs) = ap (λ os. Text (place_in_root place) (c ∷ []) ∷ os) (run-in_root place cs)

-- a text in the root, spelled out
pub text-in_root : (place at : Place) (text : List ℕ) → at ≡ place_in_root place → all_in_root (spelled_one (Text place text)) ≡ spelled_one (Text at text)
text-in_root place at text is = run-in_root place text ∙ ap (λ p. spelled_one (Text p text)) (sym is)

pub Stays-all : (d e : Doc) (ops : List Op) → e ≡ acts d ops → Stays d.tree e.tree
Stays-all d e ops is = subst (λ (x : Doc). Stays d.tree x.tree) (sym is) (Stays-acts d ops)

pub filled-done : {T E : Type 0} (r : Result T E) (d e last : Doc) (n : ℕ) (form : Bool) (ops : List Op) → e ≡ with_fragment d.tree form ops
    → OnOk r (last ≡ record e { tree = exchanged e n }) → OnOk r (last.tree ≡ filled d.tree n form ops)
unfolding filled
filled-done (Ok x) d e last n form ops made is = ap (λ (x : Doc). x.tree) is ∙ ap (λ (x : Doc). exchanged x n) made
filled-done (Err y) d e last n form ops made is = tt

abbrev doc_of : Nodes → Bound → Doc
doc_of t bound = record { tree = t; bound = bound }

-- the ids that there were, beside the tree that was filled
pub filled-again : {T E : Type 0} (r : Result T E) (old mid : Doc) (s made : Nodes) (bound : Bound) → bound ≡ old.bound → s ≡ mid.tree → OnOk r (mid.tree ≡ made)
    → OnOk r (doc_of s bound ≡ record old { tree = made })
filled-again (Ok x) old mid s made bound same now is = ap (λ (u : Nodes). doc_of u bound) (now ∙ is) ∙ ap (doc_of made) same
filled-again (Err y) old mid s made bound same now is = tt
