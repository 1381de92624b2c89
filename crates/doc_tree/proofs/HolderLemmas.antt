-- The index of ids through each change of the tree.
use Rattle.std.proofs.Common.{◌≡◌, ◌≢◌, ℕ, ◌+◌, ◌<◌, ◌≤◌, true, false, cond, List, [], ◌∷◌, ◌++◌, length, Option, Some, None, ◌⊎◌, inl, inr, refl, sym, ap, ◌∙◌, subst}
use Rattle.std.specs.Prelude.{codes, find}
use Rattle.std.specs.Str.{chars, IsUtf8}
use Rattle.std.specs.Cmp.Lexicographic.{bytes_decides}
use Rattle.std.proofs.lemmas.Bool.{cases_Bool, cases_eq, ne_eqb, eq-eqb}
use Rattle.std.proofs.lemmas.List.{get_or_past}
use Rattle.html_types.specs.Text.{same_text}
use Rattle.html_types.specs.Attributes.{has_name}
use Rattle.html_types.specs.declared.attributes.Attribute.{Attribute}
use Rattle.html_types.specs.declared.tree.Kind.{Kind}
use Rattle.html_types.specs.declared.tree.Kind.TheVariants.{Document, Contents, Doctype, Element, Text, Comment}
use Rattle.html_types.specs.declared.tree.Node.{Node}
use Rattle.standard.specs.Tree.{Nodes, node_at, kind_of, attributes_of, attribute, is_value, has_id, find_id, order, is_connected, no_node, IsTree, detached, add_attributes, attributes_added, with_lacking, with_more, with_kind, with_template, relinked, lone}
use Rattle.doc_tree.proofs.Trees.{node_at-push, kind_of-with_kind, kind_of-relinked, kind_of-detached}
use Rattle.doc_tree.proofs.Links.{cases_option}
use Rattle.doc_tree.proofs.Walks.{find_id-some}
use Rattle.doc_tree.proofs.Members.{find-there, find-apart, find-none}
use Rattle.doc_tree.specs.declared.ids.Ids.{Ids}
use Rattle.text_store.specs.declared.lists.Store.{Store}
use Rattle.doc_tree.specs.Rows.{Rows, seen}
use Rattle.doc_tree.specs.Holders.{held, MayHold, IsTold, KeepsHolders, id_of, AllTold, IsKept}
use Rattle.std.specs.Prelude.{Result, OnErr, Ok, Err}
use Rattle.text_store.specs.Lists.{KeepsAll}
use Rattle.doc_tree.proofs.Done.{Shows, store_written}

-- ---- attributes that are added

-- a value stays
value_kept : (name : List ℕ) (more as' : List Attribute) (v : List ℕ) → attribute name as' ≡ Some v → attribute name (add_attributes as' more) ≡ Some v
value_kept name [] as' v is = is
value_kept name (b ∷ bs) as' v is = elim (cases_Bool (has_name b.name as')) [
  | inl yes' ↦ rw yes' (value_kept name bs as' v is)
  | inr no' ↦ rw no' (value_kept name bs (as' ++ b ∷ []) v (behind as' is))
]
  where
    behind : (xs : List Attribute) → attribute name xs ≡ Some v → attribute name (xs ++ b ∷ []) ≡ Some v
    behind [] none = absurd cc
    behind (x ∷ xs) is = elim (cases_Bool (same_text x.name name)) [
      | inl yes' ↦ let here = rw yes' at is in rw yes' here
      | inr no' ↦ let later = rw no' at is in rw no' (behind xs later)
    ]

absent_name : (name : List ℕ) (as' : List Attribute) → attribute name as' ≡ None → has_name name as' ≡ false
absent_name name [] none = refl
absent_name name (a ∷ as') none = elim (cases_Bool (same_text a.name name)) [
  | inl yes' ↦ absurd (let here = rw yes' at none in cc)
  | inr no' ↦ let later = rw no' at none in rw no' (absent_name name as' later)
]

value_pushed : (name : List ℕ) (b : Attribute) (as' : List Attribute) → attribute name as' ≡ None → attribute name (as' ++ b ∷ []) ≡ attribute name (b ∷ [])
value_pushed name b [] none = refl
value_pushed name b (a ∷ as') none = elim (cases_Bool (same_text a.name name)) [
  | inl yes' ↦ absurd (let here = rw yes' at none in cc)
  | inr no' ↦ let later = rw no' at none in rw no' (value_pushed name b as' later)
]

-- and where there is none, the first that is added counts
value_lacking : (name : List ℕ) (more as' : List Attribute) → attribute name as' ≡ None → attribute name (add_attributes as' more) ≡ attribute name more
value_lacking name [] as' none = none
value_lacking name (b ∷ bs) as' none = elim (cases_Bool (same_text b.name name)) [
  | inl yes' ↦
      let free : has_name b.name as' ≡ false = ap (λ (n : List ℕ). has_name n as') ((bytes_decides b.name name).0 yes') ∙ absent_name name as' none in
      let here : attribute name (as' ++ b ∷ []) ≡ Some b.value = value_pushed name b as' none ∙ rw yes' refl in
      rw (free, yes') (value_kept name bs (as' ++ b ∷ []) b.value here)
  | inr no' ↦ elim (cases_Bool (has_name b.name as')) [
    | inl there ↦ rw (there, no') (value_lacking name bs as' none)
    | inr free ↦
        let still : attribute name (as' ++ b ∷ []) ≡ None = value_pushed name b as' none ∙ rw no' refl in
        rw (free, no') (value_lacking name bs (as' ++ b ∷ []) still)
  ]
]

-- so a value is an old one or one that is added
value_added : (name : List ℕ) (as' more : List Attribute) (v : List ℕ) → attribute name (add_attributes as' more) ≡ Some v → (attribute name as' ≡ Some v) ⊎ (attribute name more ≡ Some v)
value_added name as' more v is = elim (cases_option (attribute name as')) [
  | inl none ↦ inr (sym (value_lacking name more as' none) ∙ is)
  | inr some ↦ let kept = value_kept name more as' some.0 some.1 in inl (some.1 ∙ (sym kept ∙ is))
]

value_of_kind : (name : List ℕ) (kind : Kind) (more : List Attribute) (v : List ℕ) → attribute name (attributes_of (with_lacking kind more)) ≡ Some v
    → (attribute name (attributes_of kind) ≡ Some v) ⊎ (attribute name more ≡ Some v)
value_of_kind name Document more v is = inl is
value_of_kind name Contents more v is = inl is
value_of_kind name (Doctype d) more v is = inl is
value_of_kind name (Element n as') more v is = value_added name as' more v is
value_of_kind name (Text text) more v is = inl is
value_of_kind name (Comment text) more v is = inl is

attributes-with_more : (kind : Kind) (text : List ℕ) → attributes_of (with_more kind text) ≡ attributes_of kind
attributes-with_more Document text = refl
attributes-with_more Contents text = refl
attributes-with_more (Doctype d) text = refl
attributes-with_more (Element n as') text = refl
attributes-with_more (Text t) text = refl
attributes-with_more (Comment t) text = refl

-- ---- the nodes

module _ (ids ids' : Ids) (kept : KeepsHolders ids ids') (t t' : Nodes) (told : AllTold ids t) where
  told_same : ((n : ℕ) → id_of t' n ≡ id_of t n) → AllTold ids' t'
  told_same same n id is = kept id n (told n id (sym (same n) ∙ is))

  -- one node has another id
  told_at : (k : ℕ) → IsTold ids' (id_of t' k) k → ((n : ℕ) → n ≢ k → id_of t' n ≡ id_of t n) → AllTold ids' t'
  told_at k here others n id is = elim (cases_eq n k) [
    | inl same ↦ subst (λ (m : ℕ). MayHold (held ids' id) m) (sym same) (here id (ap (id_of t') (sym same) ∙ is))
    | inr other ↦ kept id n (told n id (sym (others n other) ∙ is))
  ]

pub kept_all : (ids : Ids) → KeepsHolders ids ids
kept_all ids id n holds = holds

-- ---- each change

module _ (ids ids' : Ids) (kept : KeepsHolders ids ids') (t : Nodes) (told : AllTold ids t) where
  pub told_pushed : (x : Node) → IsTold ids' (attribute (codes "id") (attributes_of x.kind)) (length t) → AllTold ids' (t ++ x ∷ [])
  told_pushed x here =
      let given : Node → Option (List ℕ) = λ y. attribute (codes "id") (attributes_of y.kind) in
      told_at ids ids' kept t (t ++ x ∷ []) told (length t)
      (λ id is. here id (sym (ap given (node_at-push t x (length t) ∙ ap (λ b. cond b x (node_at t (length t))) (eq-eqb (length t) (length t) refl))) ∙ is))
      (λ n other. ap given (node_at-push t x n ∙ ap (λ b. cond b x (node_at t n)) (ne_eqb n (length t) other)))

  pub told_added : (n : ℕ) (more : List Attribute) → n < length t → IsTold ids' (attribute (codes "id") more) n → AllTold ids' (attributes_added t n more)
  told_added n more below gets =
      let kind = with_lacking (kind_of t n) more in
      let given : Kind → Option (List ℕ) = λ k. attribute (codes "id") (attributes_of k) in
      let read = kind_of-with_kind t n kind below in
      told_at ids ids' kept t (attributes_added t n more) told n
      (λ id is. elim (value_of_kind (codes "id") (kind_of t n) more id (sym (ap given (read n ∙ ap (λ b. cond b kind (kind_of t n)) (eq-eqb n n refl))) ∙ is)) [
        | inl old ↦ kept id n (told n id old)
        | inr new ↦ gets id new
      ])
      (λ m other. ap given (read m ∙ ap (λ b. cond b kind (kind_of t m)) (ne_eqb m n other)))

module _ (ids : Ids) (t : Nodes) (told : AllTold ids t) where
  pub told_text : (n : ℕ) (text : List ℕ) → n < length t → AllTold ids (with_kind t n (with_more (kind_of t n) text))
  told_text n text below = told_same ids ids (kept_all ids) t (with_kind t n kind) told same
    where
      kind : Kind
      kind = with_more (kind_of t n) text

      given : Kind → Option (List ℕ)
      given k = attribute (codes "id") (attributes_of k)

      same : (m : ℕ) → id_of (with_kind t n kind) m ≡ id_of t m
      same m = ap given (kind_of-with_kind t n kind below m) ∙ elim (cases_eq m n) [
        | inl is ↦ ap (λ b. given (cond b kind (kind_of t m))) (eq-eqb m n is) ∙ (ap (attribute (codes "id")) (attributes-with_more (kind_of t n) text) ∙ ap (id_of t) (sym is))
        | inr other ↦ ap (λ b. given (cond b kind (kind_of t m))) (ne_eqb m n other)
      ]

  pub told_relinked : (p : ℕ) (cs : List ℕ) (n : ℕ) (u : Option ℕ) → p < length t → n < length t → AllTold ids (relinked t p cs n u)
  told_relinked p cs n u p_below n_below =
      told_same ids ids (kept_all ids) t (relinked t p cs n u) told (λ m. ap (λ (k : Kind). attribute (codes "id") (attributes_of k)) (kind_of-relinked t p cs n u p_below n_below m))

  pub told_detached : IsTree t → (n : ℕ) → n < length t → AllTold ids (detached t n)
  told_detached tree n below =
      told_same ids ids (kept_all ids) t (detached t n) told (λ m. ap (λ (k : Kind). attribute (codes "id") (attributes_of k)) (kind_of-detached t n tree below m))

pub told_template : (ids ids' : Ids) → KeepsHolders ids ids' → (t : Nodes) → AllTold ids t → (kind : Kind) → IsTold ids' (attribute (codes "id") (attributes_of kind)) (length t) → AllTold ids' (with_template t kind)
told_template ids ids' kept t told kind here =
    let x = record (lone kind) { contents = Some (length t + 1) } in
    told_pushed ids' ids' (kept_all ids') (t ++ x ∷ []) (told_pushed ids ids' kept t told x here) (record (lone Contents) { host = Some (length t) }) (λ id is. absurd cc)

-- ---- rows and their index

pub kept_rows : (store : Store) (r : Rows) (ids : Ids) (t : Nodes) → Shows store r t → AllTold ids t → IsKept store r ids
kept_rows store r ids t shows told = record { linked = shows.linked; told = subst (AllTold ids) (sym shows.view) told }

pub told_of : (store : Store) (r : Rows) (ids : Ids) (t : Nodes) → seen store r ≡ t → IsKept store r ids → AllTold ids t
told_of store r ids t view kept = subst (AllTold ids) view kept.told

-- a store that has grown shows the same rows
pub grown_rows : (store store' : Store) → KeepsAll store store' → (r : Rows) (ids ids' : Ids) → KeepsHolders ids ids' → (t : Nodes) → seen store r ≡ t → IsKept store r ids → IsKept store' r ids' × (seen store' r ≡ t)
grown_rows store store' keeps r ids ids' more t view kept =
    let shows = store_written store r t view kept.linked store' keeps in
    (kept_rows store' r ids' t shows (λ n id is. more id n (told_of store r ids t view kept n id is)), shows.view)

pub on_err_held : {T E P : Type 0} (r : Result T E) → P → OnErr r P
on_err_held (Ok x) p = tt
on_err_held (Err e) p = p

-- ---- what is asked

-- an id that no node has isn't found
pub find_id-none : (t : Nodes) (text : List ℕ) → ((n : ℕ) → has_id t text n ≡ true → ⊥) → find_id t text ≡ None
unfolding find_id
find_id-none t [] none = refl
find_id-none t (c ∷ cs) none = find-none (has_id t (c ∷ cs)) none (order t 0)

-- one that a node alone may have is found there or nowhere
module _ (t : Nodes) (tree : IsTree t) (bytes : List ℕ) (utf8 : IsUtf8 bytes) (some : length bytes ≢ 0) (n : ℕ) (only : (m : ℕ) → has_id t (chars bytes) m ≡ true → n ≡ m) where
  first_found : find_id t (chars bytes) ≡ find (has_id t (chars bytes)) (order t 0)
  first_found = find_id-some t bytes utf8 (ne_eqb (length bytes) 0 some)

  pub find_id-missed : has_id t (chars bytes) n ≡ false → find_id t (chars bytes) ≡ None
  find_id-missed miss = find_id-none t (chars bytes) (λ m hit. let same = only m hit in let both : true ≡ false = sym hit ∙ (ap (has_id t (chars bytes)) (sym same) ∙ miss) in absurd cc)

  pub find_id-past : length t ≤ n → find_id t (chars bytes) ≡ None
  find_id-past past = find_id-missed (ap (λ (x : Node). is_value (chars bytes) (attribute (codes "id") (attributes_of x.kind))) (get_or_past t n no_node past))

  module _ (below : n < length t) where
    pub find_id-there : has_id t (chars bytes) n ≡ true → is_connected t n ≡ true → find_id t (chars bytes) ≡ Some n
    find_id-there hit there = first_found ∙ find-there (has_id t (chars bytes)) n only t tree below hit there

    pub find_id-apart : is_connected t n ≡ false → find_id t (chars bytes) ≡ None
    find_id-apart away = first_found ∙ find-apart (has_id t (chars bytes)) n only t tree below away
