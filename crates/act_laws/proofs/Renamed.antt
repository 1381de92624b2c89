-- What ids are bound to, and operations under other ids.
use Rattle.std.proofs.Common.{◌≡◌, ◌≢◌, ℕ, cond, true, false, List, [], ◌∷◌, length, map, Some, refl, sym, ap, ◌∙◌, inl, inr, ◌⊎◌, arith}
use Rattle.std.specs.Prelude.{unwrap_or}
use Rattle.std.specs.BTreeMap.{insert_entry}
use Rattle.std.specs.Ordering.{nat_cmp, is_eq}
use Rattle.std.specs.declared.cmp.Ordering.{Ordering}
use Rattle.std.specs.declared.cmp.Ordering.TheVariants.{Less, Equal, Greater}
use Rattle.std.proofs.lemmas.Map.Lookups.{exact_pairs, exact_unsigned}
use Rattle.html_types.specs.declared.operation.NodeId.{NodeId}
use Rattle.html_types.specs.declared.operation.Place.{Place}
use Rattle.html_types.specs.declared.operation.Place.TheVariants.{Page, Inside, Contents, Foster}
use Rattle.html_types.specs.declared.operation.Op.{Op}
use Rattle.html_types.specs.declared.operation.Op.TheVariants.{Make, Put, Text, Comment, Doctype, Detach, MoveChildren, AddAttributes}
use Rattle.standard.specs.Tree.{Nodes, appended, find_id}
use Rattle.standard.specs.Act.{Bound, id_cmp, bound_to, node_of}
use Rattle.standard.specs.Act.{Doc, act, acts, spot_of, rename_place, rename_op, SameUpTo}
use Rattle.std.proofs.lemmas.Bool.Decides.{nat_tests}

pub id_cmp-same : (id : NodeId) → id_cmp id id ≡ Equal
id_cmp-same id = grind (arith, nat_tests)

pub same_from_equal : (a b : NodeId) → id_cmp a b ≡ Equal → a ≡ b
same_from_equal a b h = ap (λ (p : ℕ × ℕ). record { realm = p.0; n = p.1 }) (exact_pairs nat_cmp nat_cmp exact_unsigned exact_unsigned (a.realm, a.n) (b.realm, b.n) h)

-- two ids are one or not, and the test says so
pub tells : (a b : NodeId) → ((is_eq (id_cmp a b) ≡ true) × (a ≡ b)) ⊎ ((is_eq (id_cmp a b) ≡ false) × (a ≢ b))
tells a b = by_order (id_cmp a b) refl
  where
    by_order : (o : Ordering) → id_cmp a b ≡ o → ((is_eq (id_cmp a b) ≡ true) × (a ≡ b)) ⊎ ((is_eq (id_cmp a b) ≡ false) × (a ≢ b))
    by_order Less is = inr (ap is_eq is, λ same. let equal : id_cmp a b ≡ Equal = rw same (id_cmp-same b) in cc)
    by_order Equal is = inl (ap is_eq is, same_from_equal a b is)
    by_order Greater is = inr (ap is_eq is, λ same. let equal : id_cmp a b ≡ Equal = rw same (id_cmp-same b) in cc)

-- what an id is bound to after one more is
pub bound_to-insert : (es : Bound) (k : NodeId) (n : ℕ) (q : NodeId) → bound_to (insert_entry id_cmp es k n) q ≡ cond (is_eq (id_cmp q k)) (Some n) (bound_to es q)
bound_to-insert [] k n q = refl
bound_to-insert (e ∷ es) k n q = by_order (id_cmp k e.0) refl (bound_to-insert es k n q)
  where
    by_order : (o : Ordering) → id_cmp k e.0 ≡ o → bound_to (insert_entry id_cmp es k n) q ≡ cond (is_eq (id_cmp q k)) (Some n) (bound_to es q)
        → bound_to (insert_entry id_cmp (e ∷ es) k n) q ≡ cond (is_eq (id_cmp q k)) (Some n) (bound_to (e ∷ es) q)
    by_order Less is rest = rw is refl
    by_order Equal is rest =
        let test : is_eq (id_cmp q k) ≡ is_eq (id_cmp q e.0) = ap (λ x. is_eq (id_cmp q x)) (same_from_equal k e.0 is) in
        elim (tells q e.0) [ inl alike ↦ rw (is, test, alike.0) refl | inr apart ↦ rw (is, test, apart.0) refl ]
    by_order Greater is rest = elim (tells q e.0) [
      | inl alike ↦ elim (tells q k) [
        | inl both ↦ let equal : id_cmp k e.0 ≡ Equal = rw (sym both.1 ∙ alike.1) (id_cmp-same e.0) in absurd cc
        | inr other ↦ rw (is, alike.0, other.0) refl
      ]
      | inr apart ↦ rw (is, apart.0) rest
    ]

module _ (r : NodeId → NodeId) (one : (a b : NodeId) → r a ≡ r b → a ≡ b) where
  same_test : (a b : NodeId) → is_eq (id_cmp (r a) (r b)) ≡ is_eq (id_cmp a b)
  same_test a b = elim (tells a b) [
    | inl alike ↦ elim (tells (r a) (r b)) [ inl alike' ↦ alike'.0 ∙ sym alike.0 | inr apart' ↦ absurd (apart'.1 (ap r alike.1)) ]
    | inr apart ↦ elim (tells (r a) (r b)) [ inl alike' ↦ absurd (apart.1 (one a b alike'.1)) | inr apart' ↦ apart'.0 ∙ sym apart.0 ]
  ]

  node_of-renamed : (d d' : Doc) → SameUpTo r d d' → (id : NodeId) → node_of d'.bound (r id) ≡ node_of d.bound id
  node_of-renamed d d' same id = ap (λ o. unwrap_or o 0) (same.bound id)

  spot_of-renamed : (d d' : Doc) → SameUpTo r d d' → (place : Place) → spot_of d' (rename_place r place) ≡ spot_of d place
  spot_of-renamed d d' same Page = rw same.tree refl
  spot_of-renamed d d' same (Inside id) = rw (node_of-renamed d d' same id, same.tree) refl
  spot_of-renamed d d' same (Contents id) = rw (node_of-renamed d d' same id, same.tree) refl
  spot_of-renamed d d' same (Foster table above) = rw (node_of-renamed d d' same table, node_of-renamed d d' same above, same.tree) refl

  pub act-renamed : (d d' : Doc) → SameUpTo r d d' → (op : Op) → SameUpTo r (act d op) (act d' (rename_op r op))
  unfolding act
  act-renamed d d' same (Make id name attributes) = record {
    tree = rw same.tree refl;
    bound = λ q. bound_to-insert d'.bound (r id) (length d'.tree) (r q)
        ∙ (rw (same_test q id, same.bound q, same.tree) refl ∙ sym (bound_to-insert d.bound id (length d.tree) q));
  }
  act-renamed d d' same (Put id place) = record {
    tree = rw (node_of-renamed d d' same id, spot_of-renamed d d' same place, same.tree) refl;
    bound = same.bound;
  }
  act-renamed d d' same (Text place text) = record {
    tree = rw (spot_of-renamed d d' same place, same.tree) refl;
    bound = same.bound;
  }
  act-renamed d d' same (Comment place text) = record {
    tree = rw (spot_of-renamed d d' same place, same.tree) refl;
    bound = same.bound;
  }
  act-renamed d d' same (Doctype name) = record {
    tree = rw same.tree refl;
    bound = same.bound;
  }
  act-renamed d d' same (Detach id) = record {
    tree = rw (node_of-renamed d d' same id, same.tree) refl;
    bound = same.bound;
  }
  act-renamed d d' same (MoveChildren from to) = record {
    tree = rw (node_of-renamed d d' same from, node_of-renamed d d' same to, same.tree) refl;
    bound = same.bound;
  }
  act-renamed d d' same (AddAttributes id attributes) = record {
    tree = rw (node_of-renamed d d' same id, same.tree) refl;
    bound = same.bound;
  }

  pub acts-renamed : (d d' : Doc) → SameUpTo r d d' → (ops : List Op) → SameUpTo r (acts d ops) (acts d' (map (rename_op r) ops))
  unfolding acts
  acts-renamed d d' same [] = same
  acts-renamed d d' same (o ∷ os) = acts-renamed (act d o) (act d' (rename_op r o)) (act-renamed d d' same o) os

-- a script's move names no id
pub move-renamed : (r : NodeId → NodeId) (d d' : Doc) → SameUpTo r d d' → (v c : List ℕ) (t : Nodes) → appended d.tree (find_id d.tree v) (find_id d.tree c) ≡ Some t →
    (appended d'.tree (find_id d'.tree v) (find_id d'.tree c) ≡ Some t) × SameUpTo r (record d { tree = t }) (record d' { tree = t })
move-renamed r d d' same v c t is = (ap (λ u. appended u (find_id u v) (find_id u c)) same.tree ∙ is, record { tree = refl; bound = same.bound })
