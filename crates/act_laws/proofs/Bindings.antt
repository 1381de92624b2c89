-- Ids and elements stand one to one.
use Rattle.std.proofs.Common.{◌≡◌, ◌≢◌, ◌<◌, ℕ, zero, suc, Bool, true, false, cond, List, [], ◌∷◌, length, Option, Some, refl, sym, ap, ◌∙◌, inl, inr, ◌⊎◌, arith}
use Rattle.std.specs.Prelude.{unwrap_or, is_some}
use Rattle.std.specs.BTreeMap.{insert_entry}
use Rattle.std.proofs.lemmas.Bool.{cases_eq}
use Rattle.html_types.specs.declared.attributes.Attribute.{Attribute}
use Rattle.html_types.specs.declared.name.Name.{Name}
use Rattle.html_types.specs.declared.operation.NodeId.{NodeId}
use Rattle.html_types.specs.declared.operation.Op.{Op}
use Rattle.html_types.specs.declared.operation.Op.TheVariants.{Make, Put, Text, Comment, Doctype, Detach, MoveChildren, AddAttributes}
use Rattle.html_types.specs.declared.tree.Kind.TheVariants as kind
use Rattle.standard.specs.Tree.{Nodes, is_element_at, detached, appended}
use Rattle.standard.specs.Act.{Bound, Doc, new_doc, id_cmp, bound_to, node_of, is_bound, element_made, spot_of, end_of, act, acts, IsOpBound, AreOpsBound}
use Rattle.act_laws.specs.Bindings.{IsOneToOne, BindsElements, NamesElements}
use Rattle.act_laws.proofs.Renamed.{tells, bound_to-insert}
use Rattle.act_laws.proofs.Known.{AreOpsBound-act}
use Rattle.standard.specs.Fragment.{filled}
use Rattle.act_laws.specs.Staying.{Stays}
use Rattle.act_laws.proofs.Staying.{Stays-filled}
use Rattle.act_laws.proofs.Elements.{Alike, Alike-detached, Alike-appended, Alike-put_at, Alike-text_at, Alike-new_at, Alike-children_moved, Alike-attributes_added, IsMore, IsMore-element_made, none_past}

same_some : (a b : ℕ) → Some a ≡ Some b → a ≡ b
same_some a b same = ap (λ o. unwrap_or o 0) same

-- ---- one more pair

-- what an id is bound to then: to that node where it is the new one, and else as it was
pub told : (bound : Bound) (id : NodeId) (n : ℕ) (q : NodeId) (m : ℕ) → bound_to (insert_entry id_cmp bound id n) q ≡ Some m → ((q ≡ id) × (m ≡ n)) ⊎ ((q ≢ id) × (bound_to bound q ≡ Some m))
told bound id n q m is = elim (tells q id) [
  | inl alike ↦ inl (alike.1, same_some m n (sym is ∙ (bound_to-insert bound id n q ∙ ap (λ b. cond b (Some n) (bound_to bound q)) alike.0)))
  | inr apart ↦ inr (apart.1, sym (ap (λ b. cond b (Some n) (bound_to bound q)) apart.0) ∙ (sym (bound_to-insert bound id n q) ∙ is))
]

-- an id that stands for a node for which none stood
pub IsOneToOne-insert : (bound : Bound) (id : NodeId) (n : ℕ) → IsOneToOne bound → ((q : NodeId) → bound_to bound q ≢ Some n) → IsOneToOne (insert_entry id_cmp bound id n)
IsOneToOne-insert bound id n one new a b m is_a is_b = elim (told bound id n a m is_a) [
  | inl this ↦ elim (told bound id n b m is_b) [
    | inl that ↦ this.0 ∙ sym that.0
    | inr that ↦ absurd (new b (that.1 ∙ ap Some this.1))
  ]
  | inr this ↦ elim (told bound id n b m is_b) [
    | inl that ↦ absurd (new a (this.1 ∙ ap Some that.1))
    | inr that ↦ one a b m this.1 that.1
  ]
]

-- ---- documents

pub NamesElements-new : NamesElements new_doc
NamesElements-new = record {
  binds = record { elements = λ id n is. absurd (cc); one_to_one = λ a b n is_a is_b. absurd (cc) };
  named = none_named;
}
  where
    none_named : (n : ℕ) → is_element_at new_doc.tree n ≡ true → (id : NodeId) × (bound_to new_doc.bound id ≡ Some n)
    none_named zero is = absurd (cc)
    none_named (suc n) is = absurd (cc)

-- the same nodes are elements
BindsElements-alike : (d : Doc) (t : Nodes) → BindsElements d → Alike d.tree t → BindsElements (record d { tree = t })
BindsElements-alike d t binds alike = record { elements = λ id n is. alike n ∙ binds.elements id n is; one_to_one = binds.one_to_one }

NamesElements-alike : (d : Doc) (t : Nodes) → NamesElements d → Alike d.tree t → NamesElements (record d { tree = t })
NamesElements-alike d t names alike = record {
  binds = BindsElements-alike d t names.binds alike;
  named = λ n is. names.named n (sym (alike n) ∙ is);
}

-- the nodes that there were are elements as before
pub is_there : (t : Nodes) (n : ℕ) → is_element_at t n ≡ true → n < length t
is_there [] n is = absurd (cc)
is_there (x ∷ t) zero is = omega arith
is_there (x ∷ t) (suc n) is = let l : n < length t = is_there t n is in omega (arith, l)

BindsElements-stays : (d : Doc) (t : Nodes) → BindsElements d → Stays d.tree t → BindsElements (record d { tree = t })
BindsElements-stays d t binds stays = record {
  elements = λ id n is. stays.elements n (is_there d.tree n (binds.elements id n is)) ∙ binds.elements id n is;
  one_to_one = binds.one_to_one;
}

pub BindsElements-filled : (d : Doc) (n : ℕ) (form : Bool) (ops : List Op) → BindsElements d → BindsElements (record d { tree = filled d.tree n form ops })
BindsElements-filled d n form ops binds = BindsElements-stays d (filled d.tree n form ops) binds (Stays-filled d.tree n form ops)

pub BindsElements-detached : (d : Doc) (n : ℕ) → BindsElements d → BindsElements (record d { tree = detached d.tree n })
BindsElements-detached d n binds = BindsElements-alike d (detached d.tree n) binds (Alike-detached d.tree n)

pub BindsElements-appended : (d : Doc) (p n : Option ℕ) (t : Nodes) → appended d.tree p n ≡ Some t → BindsElements d → BindsElements (record d { tree = t })
BindsElements-appended d p n t is binds = BindsElements-alike d t binds (Alike-appended d.tree p n t is)

pub NamesElements-detached : (d : Doc) (n : ℕ) → NamesElements d → NamesElements (record d { tree = detached d.tree n })
NamesElements-detached d n names = NamesElements-alike d (detached d.tree n) names (Alike-detached d.tree n)

pub NamesElements-appended : (d : Doc) (p n : Option ℕ) (t : Nodes) → appended d.tree p n ≡ Some t → NamesElements d → NamesElements (record d { tree = t })
NamesElements-appended d p n t is names = NamesElements-alike d t names (Alike-appended d.tree p n t is)

module _ (d : Doc) (id : NodeId) (name : Name) (attributes : List Attribute) (binds : BindsElements d) (free : is_bound d.bound id ≡ false) where
  abbrev made : Nodes
  made = element_made d.tree name attributes

  is_more : IsMore d.tree made
  is_more = IsMore-element_made d.tree name attributes

  -- no id stands for a node that isn't there
  last_is_free : (q : NodeId) → bound_to d.bound q ≢ Some (length d.tree)
  last_is_free q is = let one = binds.elements q (length d.tree) is in let none = none_past d.tree in absurd cc

  elements_made : (q : NodeId) (n : ℕ) → bound_to (insert_entry id_cmp d.bound id (length d.tree)) q ≡ Some n → is_element_at made n ≡ true
  elements_made q n is = elim (told d.bound id (length d.tree) q n is) [
    | inl this ↦ ap (is_element_at made) this.1 ∙ is_more.here
    | inr other ↦ is_more.elsewhere n (λ same. last_is_free q (other.1 ∙ ap Some same)) ∙ binds.elements q n other.1
  ]

  own_made : (q : NodeId) → q ≡ id → bound_to (insert_entry id_cmp d.bound id (length d.tree)) q ≡ Some (length d.tree)
  own_made q is = elim (tells q id) [
    | inl alike ↦ bound_to-insert d.bound id (length d.tree) q ∙ ap (λ b. cond b (Some (length d.tree)) (bound_to d.bound q)) alike.0
    | inr apart ↦ absurd (apart.1 is)
  ]

  other_made : (q : NodeId) (n : ℕ) → bound_to d.bound q ≡ Some n → bound_to (insert_entry id_cmp d.bound id (length d.tree)) q ≡ Some n
  other_made q n is = elim (tells q id) [
    | inl alike ↦ let there : is_bound d.bound id ≡ true = ap (is_bound d.bound) (sym alike.1) ∙ ap is_some is in absurd cc
    | inr apart ↦ bound_to-insert d.bound id (length d.tree) q ∙ (ap (λ b. cond b (Some (length d.tree)) (bound_to d.bound q)) apart.0 ∙ is)
  ]

  BindsElements-made : BindsElements (act d (Make id name attributes))
  unfolding act
  BindsElements-made = record {
    elements = elements_made;
    one_to_one = IsOneToOne-insert d.bound id (length d.tree) binds.one_to_one last_is_free;
  }

module _ (d : Doc) (id : NodeId) (name : Name) (attributes : List Attribute) (names : NamesElements d) (free : is_bound d.bound id ≡ false) where
  named_made : (n : ℕ) → is_element_at (element_made d.tree name attributes) n ≡ true → (q : NodeId) × (bound_to (insert_entry id_cmp d.bound id (length d.tree)) q ≡ Some n)
  named_made n is = elim (cases_eq n (length d.tree)) [
    | inl last ↦ (id, own_made d id name attributes names.binds free id refl ∙ ap Some (sym last))
    | inr before ↦
        let more : IsMore d.tree (element_made d.tree name attributes) = IsMore-element_made d.tree name attributes in
        let old = names.named n (sym (more.elsewhere n before) ∙ is) in
        (old.0, other_made d id name attributes names.binds free old.0 n old.1)
  ]

  NamesElements-made : NamesElements (act d (Make id name attributes))
  unfolding act
  NamesElements-made = record {
    binds = BindsElements-made d id name attributes names.binds free;
    named = named_made;
  }

pub BindsElements-act : (d : Doc) → BindsElements d → (op : Op) → IsOpBound (is_bound d.bound) op → BindsElements (act d op)
unfolding act
BindsElements-act d binds (Make id name attributes) bound = BindsElements-made d id name attributes binds bound
BindsElements-act d binds (Put id place) bound = BindsElements-alike d _ binds (Alike-put_at d.tree (node_of d.bound id) (spot_of d place))
BindsElements-act d binds (Text place text) bound = BindsElements-alike d _ binds (Alike-text_at d.tree text (spot_of d place))
BindsElements-act d binds (Comment place text) bound = BindsElements-alike d _ binds (Alike-new_at d.tree (kind.Comment text) (spot_of d place) refl)
BindsElements-act d binds (Doctype name) bound = BindsElements-alike d _ binds (Alike-new_at d.tree (kind.Doctype name) (end_of d.tree 0) refl)
BindsElements-act d binds (Detach id) bound = BindsElements-alike d _ binds (Alike-detached d.tree (node_of d.bound id))
BindsElements-act d binds (MoveChildren from to) bound = BindsElements-alike d _ binds (Alike-children_moved d.tree (node_of d.bound from) (end_of d.tree (node_of d.bound to)).parent)
BindsElements-act d binds (AddAttributes id attributes) bound = BindsElements-alike d _ binds (Alike-attributes_added d.tree (node_of d.bound id) attributes)

pub BindsElements-acts : (d : Doc) → BindsElements d → (ops : List Op) → AreOpsBound (is_bound d.bound) ops → BindsElements (acts d ops)
unfolding acts AreOpsBound
BindsElements-acts d binds [] bound = binds
BindsElements-acts d binds (o ∷ os) bound = BindsElements-acts (act d o) (BindsElements-act d binds o bound.0) os (AreOpsBound-act d o os bound.1)

pub NamesElements-act : (d : Doc) → NamesElements d → (op : Op) → IsOpBound (is_bound d.bound) op → NamesElements (act d op)
unfolding act
NamesElements-act d names (Make id name attributes) bound = NamesElements-made d id name attributes names bound
NamesElements-act d names (Put id place) bound = NamesElements-alike d _ names (Alike-put_at d.tree (node_of d.bound id) (spot_of d place))
NamesElements-act d names (Text place text) bound = NamesElements-alike d _ names (Alike-text_at d.tree text (spot_of d place))
NamesElements-act d names (Comment place text) bound = NamesElements-alike d _ names (Alike-new_at d.tree (kind.Comment text) (spot_of d place) refl)
NamesElements-act d names (Doctype name) bound = NamesElements-alike d _ names (Alike-new_at d.tree (kind.Doctype name) (end_of d.tree 0) refl)
NamesElements-act d names (Detach id) bound = NamesElements-alike d _ names (Alike-detached d.tree (node_of d.bound id))
NamesElements-act d names (MoveChildren from to) bound = NamesElements-alike d _ names (Alike-children_moved d.tree (node_of d.bound from) (end_of d.tree (node_of d.bound to)).parent)
NamesElements-act d names (AddAttributes id attributes) bound = NamesElements-alike d _ names (Alike-attributes_added d.tree (node_of d.bound id) attributes)

pub NamesElements-acts : (d : Doc) → NamesElements d → (ops : List Op) → AreOpsBound (is_bound d.bound) ops → NamesElements (acts d ops)
unfolding acts AreOpsBound
NamesElements-acts d names [] bound = names
NamesElements-acts d names (o ∷ os) bound = NamesElements-acts (act d o) (NamesElements-act d names o bound.0) os (AreOpsBound-act d o os bound.1)
