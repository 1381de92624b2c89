-- What keeps a document one.
use Rattle.std.proofs.Common.{◌≡◌, ◌≢◌, ℕ, ◌<◌, List, [], ◌∷◌, ◌++◌, length, Option, Some, None, Result, Ok, Err, OnOk, OnErr, IsSome, Bool, true, false, if◌then◌else◌, refl, sym, ap, subst, ◌∙◌, arith, rules, inl, inr}
use Rattle.std.specs.Prelude.{unwrap_or, IfSome, IsTrue, is_some}
use Rattle.std.specs.Map.{values_of, remove_entry}
use Rattle.std.specs.BTreeMap.{insert_entry, is_at}
use Rattle.std.specs.declared.cmp.Ordering.{Ordering}
use Rattle.std.specs.declared.cmp.Ordering.TheVariants.{Less, Equal, Greater}
use Rattle.std.proofs.lemmas.Bool.{cases_eq}
use Rattle.std.proofs.lemmas.Bool.Decides.{nat_tests}
use Rattle.std.proofs.lemmas.List.Elements.{All-weaker}
use Rattle.std.proofs.lemmas.Map.Views.{All-values-insert_entry, IfSome-lookup_from_All}
use Rattle.standard.specs.Tree.{Nodes, no_node, is_element_at, lone, with_template, Keeps}
use Rattle.std.proofs.lemmas.List.{length_push, get_or_push}
use Rattle.html_types.specs.declared.attributes.Attribute.{Attribute}
use Rattle.html_types.specs.declared.tree.Node.{Node}
use Rattle.html_types.specs.declared.name.Name.{Name}
use Rattle.html_types.specs.declared.word.Word.TheVariants.{Template}
use Rattle.html_types.specs.declared.tree.Kind.TheVariants.{Element}
use Rattle.html_types.specs.declared.operation.NodeId.{NodeId}
use Rattle.standard.specs.Elements.{is_word}
use Rattle.standard.specs.Act.{Bound, Doc, id_cmp, bound_to, node_of, is_bound, element_made}
use Rattle.doc_tree.proofs.Trees.{node_at-push}
use Rattle.op_exec.specs.Docs.{IsPlain, IsDoc}
use Rattle.act_laws.proofs.Renamed.{id_cmp-same}
use Rattle.act_laws.proofs.Bindings.{IsOneToOne-insert}
use Rattle.act_laws.proofs.Elements.{Alike, IsMore, IsMore-element_made}

pub IsPlain-kept : (t s : Nodes) (n : ℕ) → Keeps t s → IsPlain t n → IsPlain s n
IsPlain-kept t s n kept plain = (omega (arith, kept.nodes, plain.0), plain.1, kept.hosts n plain.0 ∙ plain.2)

-- the same nodes are elements
pub IsDoc-kept : (t s : Nodes) (bound : Bound) → IsDoc t bound → Keeps t s → Alike t s → IsDoc s bound
IsDoc-kept t s bound doc kept alike = record {
  document = omega (arith, kept.nodes, doc.document);
  plain = All-weaker (IsPlain t) (IsPlain s) (λ n plain. IsPlain-kept t s n kept plain) (values_of bound) doc.plain;
  one_to_one = doc.one_to_one;
  elements = λ n is. IsPlain-kept t s n kept (doc.elements n (sym (alike n) ∙ is));
}

-- what a call left that did this, or nothing
pub IsDoc-done : {T E : Type 0} (r : Result T E) (t s made : Nodes) (bound : Bound) → IsDoc t bound → Keeps t s → OnOk r (s ≡ made) → OnErr r (s ≡ t) → Alike t made → IsDoc s bound
IsDoc-done (Ok x) t s made bound doc kept is same alike = IsDoc-kept t s bound doc kept (λ n. ap (λ (u : Nodes). is_element_at u n) is ∙ alike n)
IsDoc-done (Err e) t s made bound doc kept is same alike = subst (λ (u : Nodes). IsDoc u bound) (sym same) doc

-- no id stands for the node that comes next
next_is_free : (t : Nodes) (bound : Bound) → IsDoc t bound → (q : NodeId) → bound_to bound q ≢ Some (length t)
next_is_free t bound doc q is =
    let plain : IfSome (bound_to bound q) (IsPlain t) = IfSome-lookup_from_All (IsPlain t) (is_at (id_cmp q)) bound doc.plain in
    let here : length t < length t = (subst (λ o. IfSome o (IsPlain t)) is plain).0 in
    absurd (omega (arith, here))

pub IsDoc-bound : (t s : Nodes) (bound : Bound) (id : NodeId) → IsDoc t bound → Keeps t s → IsMore t s → IsPlain s (length t) → IsDoc s (insert_entry id_cmp bound id (length t))
IsDoc-bound t s bound id doc kept more plain = record {
  document = omega (arith, kept.nodes, doc.document);
  plain =
      All-values-insert_entry id_cmp id (length t) (IsPlain s) bound
      (All-weaker (IsPlain t) (IsPlain s) (λ n plain. IsPlain-kept t s n kept plain) (values_of bound) doc.plain) plain;
  one_to_one = IsOneToOne-insert bound id (length t) doc.one_to_one (next_is_free t bound doc);
  elements = λ n is. elim (cases_eq n (length t)) [
    | inl last ↦ subst (IsPlain s) (sym last) plain
    | inr other ↦ IsPlain-kept t s n kept (doc.elements n (sym (more.elsewhere n other) ∙ is))
  ];
}

at_some : (o : Option ℕ) (P : ℕ → Type 0) → IsSome o → IfSome o P → P (unwrap_or o 0)
at_some None P some h = absurd cc
at_some (Some n) P some h = h

pub some_from_test : (o : Option ℕ) → IsTrue (is_some o) → IsSome o
some_from_test None there = absurd (cc)
some_from_test (Some n) there = search rules

-- an id that is bound stands for a node
pub IsPlain-node_of : (t : Nodes) (bound : Bound) (id : NodeId) → IsDoc t bound → IsTrue (is_bound bound id) → IsPlain t (node_of bound id)
IsPlain-node_of t bound id doc there = at_some (bound_to bound id) (IsPlain t) (some_from_test (bound_to bound id) there) (IfSome-lookup_from_All (IsPlain t) (is_at (id_cmp id)) bound doc.plain)

-- so does what is read at it in a document
pub IsPlain-read : (d : Doc) (t : Nodes) (bound : Bound) (id : NodeId) (n : ℕ) → record { tree = t; bound = bound } ≡ d → n ≡ node_of bound id → IsDoc t bound → IsTrue (is_bound d.bound id)
    → IsPlain d.tree n
IsPlain-read d t bound id n view is doc there =
    let here : IsTrue (is_bound bound id) = subst (λ (x : Doc). IsTrue (is_bound x.bound id)) (sym view) there in
    subst (λ (x : Doc). IsPlain x.tree n) view (subst (IsPlain t) (sym is) (IsPlain-node_of t bound id doc here))

-- taking a new id out again leaves all as it was
pub remove_entry-insert_entry : (bound : Bound) (id : NodeId) (n : ℕ) → bound_to bound id ≡ None → remove_entry (is_at (id_cmp id)) (insert_entry id_cmp bound id n) ≡ bound
remove_entry-insert_entry [] id n absent = rw (id_cmp-same id) refl
remove_entry-insert_entry (e ∷ es) id n absent = by_order (id_cmp id e.0) refl (remove_entry-insert_entry es id n)
  where
    by_order : (o : Ordering) → id_cmp id e.0 ≡ o → (bound_to es id ≡ None → remove_entry (is_at (id_cmp id)) (insert_entry id_cmp es id n) ≡ es)
        → remove_entry (is_at (id_cmp id)) (insert_entry id_cmp (e ∷ es) id n) ≡ e ∷ es
    by_order Less is rest = rw (is, id_cmp-same id) refl
    by_order Equal is rest = let found : bound_to (e ∷ es) id ≡ Some e.1 = rw is refl in absurd cc
    by_order Greater is rest = rw (is, is) (ap (λ x. e ∷ x) (rest (rw is at absent)))

-- a new element is plain
IsPlain-new : (t : Nodes) (x : Node) → 0 < length t → x.host ≡ None → IsPlain (t ++ x ∷ []) (length t)
IsPlain-new t x some none = (omega (arith, length_push t x), (λ is. not_none is), ap (λ (v : Node). v.host) (get_or_push t x no_node (length t) refl) ∙ none)
  where
    not_none : length t ≡ 0 → ⊥
    not_none is = omega arith

IsPlain-more : (t : Nodes) (x : Node) (n : ℕ) → IsPlain t n → IsPlain (t ++ x ∷ []) n
IsPlain-more t x n plain = (omega (arith, length_push t x, plain.0), plain.1, grind (arith, nat_tests, node_at-push t x n, plain.0, plain.2))

pub IsPlain-element_made : (t s : Nodes) (name : Name) (as' : List Attribute) → 0 < length t → s ≡ element_made t name as' → IsPlain s (length t)
IsPlain-element_made t s name as' some made = rw made (by (is_word Template name))
  where
    by : (is : Bool) → IsPlain (if is then with_template t (Element name as') else t ++ lone (Element name as') ∷ []) (length t)
    by true = IsPlain-more _ _ (length t) (IsPlain-new t _ some refl)
    by false = IsPlain-new t (lone (Element name as')) some refl

pub none_from_test : (o : Option ℕ) → is_some o ≡ false → o ≡ None
none_from_test None none = refl
none_from_test (Some n) none = absurd (cc)

-- a document in which an element was made, or wasn't
pub IsDoc-made : {T E : Type 0} (r : Result T E) (t s : Nodes) (old new : Bound) (id : NodeId) (name : Name) (as' : List Attribute) → IsDoc t old
    → OnOk r (new ≡ insert_entry id_cmp old id (length t)) → OnOk r (s ≡ element_made t name as') → OnErr r (new ≡ old) → OnErr r (s ≡ t) → Keeps t s → IsDoc s new
IsDoc-made (Ok x) t s old new id name as' doc bound made kept same keeps =
    subst (IsDoc s) (sym bound)
    (IsDoc-bound t s old id doc keeps (subst (IsMore t) (sym made) (IsMore-element_made t name as')) (IsPlain-element_made t s name as' doc.document made))
IsDoc-made (Err e) t s old new id name as' doc bound made kept same keeps = subst (IsDoc s) (sym kept) (subst (λ (u : Nodes). IsDoc u old) (sym same) doc)
