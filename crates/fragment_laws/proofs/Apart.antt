-- Nodes that know nothing of those before a number: what is done to them leaves those before it as they are.
use Rattle.std.proofs.Common.{◌≡◌, ◌≢◌, ◌<◌, ◌≤◌, ◌+◌, ◌-◌, ◌⊎◌, inl, inr, ℕ, Bool, true, false, cond, eqb, List, [], ◌∷◌, ◌++◌, length, get_or, set, Option, Some, None, if◌then◌else◌, refl, sym, ap, subst, ◌∙◌, le_refl, le_trans, arith, length-set, length-append, get_or-set_same, get_or-set_other}
use Rattle.std.specs.Prelude.{◌==◌, ◌&&◌, IsTrue, nat_lt, insert, position, unwrap_or, is_some}
use Rattle.std.proofs.lemmas.Bool.{cases_eq, cases_lt, ne_eqb, eq-eqb}
use Rattle.std.proofs.lemmas.List.{get_or_past}
use Rattle.std.proofs.lemmas.List.Quantifiers.{position-Some}
use Rattle.html_types.specs.Numbers.{count_of, without, place_of, put_in}
use Rattle.html_types.proofs.Counts.{count_of-without, count_of-here, count_of-insert}
use Rattle.html_types.specs.declared.attributes.Attribute.{Attribute}
use Rattle.html_types.specs.declared.name.Name.{Name}
use Rattle.html_types.specs.declared.word.Word.TheVariants.{Template}
use Rattle.html_types.specs.declared.tree.Node.{Node}
use Rattle.html_types.specs.declared.tree.Kind.{Kind}
use Rattle.html_types.specs.declared.tree.Kind.TheVariants as kind
use Rattle.html_types.specs.declared.operation.NodeId.{NodeId}
use Rattle.html_types.specs.declared.operation.Place.{Place}
use Rattle.html_types.specs.declared.operation.Place.TheVariants.{Page, Inside, Contents, Foster}
use Rattle.html_types.specs.declared.operation.Op.{Op}
use Rattle.html_types.specs.declared.operation.Op.TheVariants.{Make, Put, Text, Comment, Doctype, Detach, MoveChildren, AddAttributes}
use Rattle.standard.specs.Elements.{is_word}
use Rattle.standard.specs.Tree.{Nodes, no_node, node_at, kind_of, parent_of, children_of, contents_of, is_document, is_text, lone, with_kind, with_parent, with_children, relinked, taken_out, detached, put_under, moved, is_impossible, put_of, all_put, with_new, with_more, text_before, text_put, with_lacking, with_template}
use Rattle.standard.specs.Act.{Doc, Spot, bound_to, node_of, is_bound, end_of, before_in, foster_spot, spot_of, element_made, put_from, put_at, text_at, act, acts, IsPlaceBound, IsOpBound, AreOpsBound}
use Rattle.standard.specs.Fragment.{root_id, roots_made, place_in_root, all_in_root, with_fragment}
use Rattle.act_laws.proofs.Known.{AreOpsBound-act}
use Rattle.act_laws.proofs.Bindings.{told}
use Rattle.doc_tree.proofs.Trees.{node_at-push}
use Rattle.op_exec.proofs.Filling.{root-bound, rooted-bound, fragment-made}
use Rattle.fragment_laws.specs.Laws.{AreOwn, NodesStay}

-- what is written to a node, read at another
pub set-either : (t : Nodes) (n : ℕ) (x : Node) (m : ℕ) → (node_at (set t n x) m ≡ node_at t m) ⊎ ((m ≡ n) × (node_at (set t n x) m ≡ x))
set-either t n x m = elim (cases_eq m n) [
  | inl same ↦ elim (cases_lt n (length t)) [
    | inl below ↦ inr (same, ap (node_at (set t n x)) same ∙ get_or-set_same t n x no_node below)
    | inr past ↦
        let long : length (set t n x) ≡ length t = length-set t n x in
        inl (ap (node_at (set t n x)) same ∙ (get_or_past (set t n x) n no_node (omega (arith, past, long)) ∙ sym (ap (node_at t) same ∙ get_or_past t n no_node past)))
  ]
  | inr other ↦ inl (get_or-set_other t n m x no_node other)
]

pub elsewhere : (t : Nodes) (n : ℕ) (x : Node) (m : ℕ) → m ≢ n → node_at (set t n x) m ≡ node_at t m
elsewhere t n x m other = get_or-set_other t n m x no_node other

module _ (k : ℕ) where
  -- a node whose links lead to none before k
  pub record Good (x : Node) : Type 0 where
    pub parent : (p : ℕ) → x.parent ≡ Some p → k ≤ p
    pub children : (c : ℕ) → 0 < count_of c x.children → k ≤ c
    pub host : (h : ℕ) → x.host ≡ Some h → k ≤ h
    pub contents : (c : ℕ) → x.contents ≡ Some c → k ≤ c

  -- so is each from k on
  abbrev pub Apart : Nodes → Type 0
  Apart t = (m : ℕ) → k ≤ m → Good (node_at t m)

  pub record Beyond (t s : Nodes) : Type 0 where
    pub apart : Apart s
    pub same : (m : ℕ) → m < k → node_at s m ≡ node_at t m
    pub longer : length t ≤ length s

  pub beyond-same : (t : Nodes) → Apart t → Beyond t t
  beyond-same t a = record { apart = a; same = λ m b. refl; longer = le_refl _ }

  pub beyond-chain : (t s u : Nodes) → Beyond t s → Beyond s u → Beyond t u
  beyond-chain t s u one two = record {
    apart = two.apart;
    same = λ m b. two.same m b ∙ one.same m b;
    longer = le_trans one.longer two.longer;
  }

  good-is : (x y : Node) → x ≡ y → Good y → Good x
  good-is x y is good = subst Good (sym is) good

  pub beyond-set : (t : Nodes) (n : ℕ) (x : Node) → Apart t → k ≤ n → Good x → Beyond t (set t n x)
  beyond-set t n x a from good = record {
    apart = λ m far. elim (set-either t n x m) [
      | inl old ↦ good-is (node_at (set t n x) m) (node_at t m) old (a m far)
      | inr new ↦ good-is (node_at (set t n x) m) x new.1 good
    ];
    same = λ m b. elsewhere t n x m (λ same. absurd (omega (arith, same, b, from)));
    longer = let l : length (set t n x) ≡ length t = length-set t n x in omega (arith, l);
  }

  some-none : (q : ℕ) → None ≡ Some q → k ≤ q
  some-none q is = absurd (cc)

  beyond-children : (t : Nodes) (p : ℕ) (cs : List ℕ) → Apart t → k ≤ p → ((c : ℕ) → 0 < count_of c cs → k ≤ c) → Beyond t (with_children t p cs)
  beyond-children t p cs a from good =
      beyond-set t p (record (node_at t p) { children = cs }) a from (let g = a p from in record { parent = g.parent; children = good; host = g.host; contents = g.contents })

  beyond-parent : (t : Nodes) (n : ℕ) (u : Option ℕ) → Apart t → k ≤ n → ((q : ℕ) → u ≡ Some q → k ≤ q) → Beyond t (with_parent t n u)
  beyond-parent t n u a from good =
      beyond-set t n (record (node_at t n) { parent = u }) a from (let g = a n from in record { parent = good; children = g.children; host = g.host; contents = g.contents })

  beyond-kind : (t : Nodes) (n : ℕ) (x : Kind) → Apart t → k ≤ n → Beyond t (with_kind t n x)
  beyond-kind t n x a from = let g = a n from in beyond-set t n (record (node_at t n) { kind = x }) a from (record { parent = g.parent; children = g.children; host = g.host; contents = g.contents })

  beyond-relinked : (t : Nodes) (p : ℕ) (cs : List ℕ) (n : ℕ) (u : Option ℕ) → Apart t → k ≤ p → ((c : ℕ) → 0 < count_of c cs → k ≤ c) → k ≤ n → ((q : ℕ) → u ≡ Some q → k ≤ q)
      → Beyond t (relinked t p cs n u)
  beyond-relinked t p cs n u a p_far cs_far n_far u_far =
      let first = beyond-children t p cs a p_far cs_far in
      beyond-chain t (with_children t p cs) (relinked t p cs n u) first (beyond-parent (with_children t p cs) n u first.apart n_far u_far)

  without-fewer : (n c : ℕ) (xs : List ℕ) → 0 < count_of c (without n xs) → 0 < count_of c xs
  without-fewer n c xs some = by (eqb c n) (count_of-without c n xs)
    where
      by : (b : Bool) → count_of c (without n xs) ≡ cond b 0 (count_of c xs) → 0 < count_of c xs
      by true is = absurd (omega (arith, some, is))
      by false is = omega (arith, some, is)

  pub beyond-detached : (t : Nodes) (n : ℕ) → Apart t → k ≤ n → Beyond t (detached t n)
  beyond-detached t n a far = by (parent_of t n) refl
    where
      by : (p : Option ℕ) → parent_of t n ≡ p → Beyond t (taken_out t n p)
      by None is = beyond-same t a
      by (Some p) is =
          let p_far : k ≤ p = (a n far).parent p is in
          beyond-relinked t p (without n (children_of t p)) n None a p_far (λ c some. (a p p_far).children c (without-fewer n c (children_of t p) some)) far some-none

  more-far : (c n i : ℕ) (xs : List ℕ) → ((d : ℕ) → 0 < count_of d xs → k ≤ d) → k ≤ n → 0 < count_of c (insert xs i n) → k ≤ c
  more-far c n i xs far n_far some = elim (cases_eq n c) [
    | inl same ↦ omega (arith, same, n_far)
    | inr other ↦
        let none : eqb n c ≡ false = ne_eqb n c other in
        let is : count_of c (insert xs i n) ≡ count_of c xs + 0 = count_of-insert c xs i n ∙ ap (λ b. count_of c xs + cond b 1 0) none in
        far c (omega (arith, some, is))
  ]

  one-some : (p q : ℕ) → k ≤ p → Some p ≡ Some q → k ≤ q
  one-some p q far is = subst (λ x. k ≤ x) (ap (λ o. unwrap_or o p) is) far

  beyond-put_under : (t : Nodes) (n p : ℕ) (before : Option ℕ) → Apart t → k ≤ n → k ≤ p → Beyond t (put_under t n p before)
  beyond-put_under t n p before a n_far p_far =
      beyond-relinked t p (put_in (children_of t p) n before) n (Some p) a p_far
      (λ c some. more-far c n (place_of (children_of t p) before) (children_of t p) (a p p_far).children n_far some) n_far (λ q is. one-some p q p_far is)

  beyond-moved : (t : Nodes) (n p : ℕ) (before : Option ℕ) → Apart t → k ≤ n → k ≤ p → Beyond t (moved t n p before)
  beyond-moved t n p before a n_far p_far =
      let out = beyond-detached t n a n_far in
      beyond-chain t (detached t n) (moved t n p before) out (beyond-put_under (detached t n) n p before out.apart n_far p_far)

  either : (b : Bool) (t s : Nodes) → Apart t → Beyond t s → Beyond t (if b then t else s)
  either true t s a h = beyond-same t a
  either false t s a h = h

  pub beyond-put_of : (t : Nodes) (n p : ℕ) (before : Option ℕ) → Apart t → k ≤ n → k ≤ p → Beyond t (put_of t n p before)
  beyond-put_of t n p before a n_far p_far = either (is_impossible t n p) t (moved t n p before) a (beyond-moved t n p before a n_far p_far)

  beyond-all_put : (t : Nodes) (cs : List ℕ) (p : ℕ) → Apart t → ((c : ℕ) → 0 < count_of c cs → k ≤ c) → k ≤ p → Beyond t (all_put t cs p)
  beyond-all_put t [] p a far p_far = beyond-same t a
  beyond-all_put t (c ∷ cs) p a far p_far =
      let here : eqb c c ≡ true = eq-eqb c c refl in
      let one : count_of c (c ∷ cs) ≡ 1 + count_of c cs = ap (λ b. cond b 1 0 + count_of c cs) here in
      let first = beyond-put_of t c p None a (far c (omega (arith, one))) p_far in
      beyond-chain t (put_of t c p None) (all_put (put_of t c p None) cs p) first
      (beyond-all_put (put_of t c p None) cs p first.apart (λ d some. far d (omega (arith, some))) p_far)

  -- ---- places

  -- a place from k on: before it stands a child of the node
  pub record GoodSpot (t : Nodes) (s : Spot) : Type 0 where
    pub parent : k ≤ s.parent
    pub before : (b : ℕ) → s.before ≡ Some b → (k ≤ b) × (parent_of t b ≡ Some s.parent)

  pub end-good : (t : Nodes) (n : ℕ) → Apart t → k ≤ n → GoodSpot t (end_of t n)
  end-good t n a far = record { parent = by (contents_of t n) refl; before = λ b is. absurd (cc) }
    where
      by : (c : Option ℕ) → contents_of t n ≡ c → k ≤ unwrap_or c n
      by None is = far
      by (Some c) is = (a n far).contents c is

  foster-good : (t : Nodes) (table above : ℕ) → Apart t → k ≤ table → k ≤ above → GoodSpot t (foster_spot t table above (parent_of t table))
  foster-good t table above a table_far above_far = by (parent_of t table) refl
    where
      by_contents : (p : ℕ) → parent_of t table ≡ Some p → (c : Option ℕ) → contents_of t p ≡ c → GoodSpot t (before_in p table c)
      by_contents p up None is = record { parent = (a table table_far).parent p up; before = λ b same. (one-some table b table_far same, ap (λ x. parent_of t x) (sym (ap (λ o. unwrap_or o table) same)) ∙ up) }
      by_contents p up (Some c) is = record { parent = (a p ((a table table_far).parent p up)).contents c is; before = λ b same. absurd (cc) }

      by : (p : Option ℕ) → parent_of t table ≡ p → GoodSpot t (foster_spot t table above p)
      by None up = end-good t above a above_far
      by (Some p) up = by_contents p up (contents_of t p) refl

  beyond-put_at : (t : Nodes) (n : ℕ) (s : Spot) → Apart t → k ≤ n → GoodSpot t s → Beyond t (put_at t n s)
  beyond-put_at t n s a far good = by s.before refl
    where
      by : (before : Option ℕ) → s.before ≡ before → Beyond t (put_from t n s.parent before)
      by None is = beyond-put_of t n s.parent None a far good.parent
      by (Some b) is =
          either (n == b) t _ a
          (subst (λ p. Beyond t (put_of t n (unwrap_or p 0) (Some b))) (sym (good.before b is).1) (beyond-put_of t n s.parent (Some b) a far good.parent))

  -- ---- new nodes

  pub beyond-push : (t : Nodes) (x : Node) → Apart t → k ≤ length t → Good x → Beyond t (t ++ x ∷ [])
  beyond-push t x a long good = record {
    apart = λ m far. by m far (eqb m (length t)) (node_at-push t x m);
    same = λ m b. node_at-push t x m ∙ ap (λ v. cond v x (node_at t m)) (ne_eqb m (length t) (λ same. absurd (omega (arith, same, b, long))));
    longer = let l : length (t ++ x ∷ []) ≡ length t + 1 = length-append t (x ∷ []) in omega (arith, l);
  }
    where
      by : (m : ℕ) → k ≤ m → (v : Bool) → node_at (t ++ x ∷ []) m ≡ cond v x (node_at t m) → Good (node_at (t ++ x ∷ []) m)
      by m far true is = good-is (node_at (t ++ x ∷ []) m) x is good
      by m far false is = good-is (node_at (t ++ x ∷ []) m) (node_at t m) is (a m far)

  lone-good : (x : Kind) → Good (lone x)
  lone-good x = record { parent = some-none; children = λ c some. absurd (omega (arith, some)); host = some-none; contents = some-none }

  longer-more : (t s : Nodes) → Beyond t s → k ≤ length t → k ≤ length s
  longer-more t s b long = omega (arith, b.longer, long)

  beyond-with_new : (t : Nodes) (p place : ℕ) (x : Kind) → Apart t → k ≤ length t → k ≤ p → Beyond t (with_new t p place x)
  beyond-with_new t p place x a long far =
      let first = beyond-push t (lone x) a long (lone-good x) in
      let u : Nodes = t ++ lone x ∷ [] in
      beyond-chain t u (with_new t p place x) first
      (beyond-relinked u p (insert (children_of u p) place (length t)) (length t) (Some p) first.apart far (λ c some. more-far c (length t) place (children_of u p) (first.apart p far).children long some) long (λ q is. one-some p q far is))

  pub place-le : (xs : List ℕ) (before : Option ℕ) → place_of xs before ≤ length xs
  place-le xs None = le_refl _
  place-le xs (Some b) = by (position (λ c. c == b) xs) refl
    where
      by : (o : Option ℕ) → position (λ c. c == b) xs ≡ o → unwrap_or o (length xs) ≤ length xs
      by None is = le_refl _
      by (Some i) is = let l : i < length xs = (position-Some (λ c. c == b) xs i 0 is).0 in omega (arith, l)

  beyond-text_put : (t : Nodes) (p place : ℕ) (text : List ℕ) → Apart t → k ≤ length t → k ≤ p → place ≤ length (children_of t p) → Beyond t (text_put t p place text (text_before t p place))
  beyond-text_put t p place text a long far within = by (nat_lt 0 place) (is_text (kind_of t (get_or (children_of t p) (place - 1) 0))) refl
    where
      m : ℕ
      m = get_or (children_of t p) (place - 1) 0

      by : (after text' : Bool) → nat_lt 0 place ≡ after → Beyond t (text_put t p place text (if after && text' then Some m else None))
      by false text' is = beyond-with_new t p place (kind.Text text) a long far
      by true false is = beyond-with_new t p place (kind.Text text) a long far
      by true true is =
          let some : 0 < place = grind (arith, is) in
          let here : 0 < count_of m (children_of t p) = count_of-here (children_of t p) (place - 1) (omega (arith, some, within)) in
          beyond-kind t m (with_more (kind_of t m) text) a ((a p far).children m here)

  beyond-text_at : (t : Nodes) (text : List ℕ) (s : Spot) → Apart t → k ≤ length t → GoodSpot t s → Beyond t (text_at t text s)
  beyond-text_at t [] s a long good = beyond-same t a
  beyond-text_at t (c ∷ cs) s a long good =
      let place : ℕ = place_of (children_of t s.parent) s.before in
      either (is_document (kind_of t s.parent)) t (text_put t s.parent place (c ∷ cs) (text_before t s.parent place)) a
      (beyond-text_put t s.parent place (c ∷ cs) a long good.parent (place-le (children_of t s.parent) s.before))

  beyond-made : (t : Nodes) (name : Name) (attributes : List Attribute) → Apart t → k ≤ length t → Beyond t (element_made t name attributes)
  beyond-made t name as' a long = by (is_word Template name)
    where
      x : Node
      x = record (lone (kind.Element name as')) { contents = Some (length t + 1) }

      by : (b : Bool) → Beyond t (if b then with_template t (kind.Element name as') else t ++ lone (kind.Element name as') ∷ [])
      by false = beyond-push t (lone (kind.Element name as')) a long (lone-good (kind.Element name as'))
      by true =
          let first = beyond-push t x a long (record { parent = some-none; children = λ c some. absurd (omega (arith, some)); host = some-none; contents = λ c is. one-some (length t + 1) c (omega (arith, long)) is }) in
          let last : Node = record (lone kind.Contents) { host = Some (length t) } in
          beyond-chain t (t ++ x ∷ []) ((t ++ x ∷ []) ++ last ∷ []) first
          (beyond-push (t ++ x ∷ []) last first.apart (longer-more t (t ++ x ∷ []) first long) (record { parent = some-none; children = λ c some. absurd (omega (arith, some)); host = λ h is. one-some (length t) h long is; contents = some-none }))

  -- ---- operations

  -- ids name nodes from k on alone
  pub record Owned (d : Doc) : Type 0 where
    pub apart : Apart d.tree
    pub size : k ≤ length d.tree
    pub ids : (id : NodeId) (n : ℕ) → bound_to d.bound id ≡ Some n → k ≤ n

  pub node-far : (d : Doc) (id : NodeId) → Owned d → IsTrue (is_bound d.bound id) → k ≤ node_of d.bound id
  node-far d id o bound = by (bound_to d.bound id) refl bound
    where
      by : (b : Option ℕ) → bound_to d.bound id ≡ b → is_some b ≡ true → k ≤ unwrap_or b 0
      by None is none = absurd (cc)
      by (Some n) is some = o.ids id n is

  -- not the Document's
  abbrev pub IsRootedPlace : Place → Type 0
  IsRootedPlace Page = ⊥
  IsRootedPlace _ = Unit {0}

  abbrev pub IsRooted : Op → Type 0
  IsRooted (Put id place) = IsRootedPlace place
  IsRooted (Text place text) = IsRootedPlace place
  IsRooted (Comment place text) = IsRootedPlace place
  IsRooted (Doctype name) = ⊥
  IsRooted _ = Unit {0}

  abbrev pub AreRooted : List Op → Type 0
  AreRooted [] = Unit {0}
  AreRooted (o ∷ os) = IsRooted o × AreRooted os

  place-rooted : (place : Place) → IsRootedPlace (place_in_root place)
  place-rooted Page = tt
  place-rooted (Inside id) = tt
  place-rooted (Contents id) = tt
  place-rooted (Foster table above) = tt

  pub in_root-rooted : (ops : List Op) → AreRooted (all_in_root ops)
  in_root-rooted [] = tt
  in_root-rooted (Make id name as' ∷ os) = (tt, in_root-rooted os)
  in_root-rooted (Put id place ∷ os) = (place-rooted place, in_root-rooted os)
  in_root-rooted (Text place text ∷ os) = (place-rooted place, in_root-rooted os)
  in_root-rooted (Comment place text ∷ os) = (place-rooted place, in_root-rooted os)
  in_root-rooted (Doctype name ∷ os) = in_root-rooted os
  in_root-rooted (Detach id ∷ os) = (tt, in_root-rooted os)
  in_root-rooted (MoveChildren from to ∷ os) = (tt, in_root-rooted os)
  in_root-rooted (AddAttributes id as' ∷ os) = (tt, in_root-rooted os)

  pub spot-good : (d : Doc) (place : Place) → Owned d → IsRootedPlace place → IsPlaceBound (is_bound d.bound) place → GoodSpot d.tree (spot_of d place)
  spot-good d Page o r b = absurd r
  spot-good d (Inside id) o r b = end-good d.tree (node_of d.bound id) o.apart (node-far d id o b)
  spot-good d (Contents id) o r b = end-good d.tree (node_of d.bound id) o.apart (node-far d id o b)
  spot-good d (Foster table above) o r b = foster-good d.tree (node_of d.bound table) (node_of d.bound above) o.apart (node-far d table o b.0) (node-far d above o b.1)

  acted : (d : Doc) (t : Nodes) → Owned d → Beyond d.tree t → Owned (record d { tree = t }) × Beyond d.tree t
  acted d t o b = (record { apart = b.apart; size = omega (arith, b.longer, o.size); ids = o.ids }, b)

  pub act-owned : (d : Doc) (op : Op) → Owned d → IsRooted op → IsOpBound (is_bound d.bound) op → Owned (act d op) × Beyond d.tree (act d op).tree
  unfolding act
  act-owned d (Make id name as') o r b =
      let made = beyond-made d.tree name as' o.apart o.size in (
        record {
          apart = made.apart;
          size = omega (arith, made.longer, o.size);
          ids = λ q n is. elim (told d.bound id (length d.tree) q n is) [
            | inl this ↦ let e : n ≡ length d.tree = this.1 in omega (arith, e, o.size)
            | inr other ↦ o.ids q n other.1
          ];
        },
        made,
      )
  act-owned d (Put id place) o r b = acted d _ o (beyond-put_at d.tree (node_of d.bound id) (spot_of d place) o.apart (node-far d id o b.0) (spot-good d place o r b.1))
  act-owned d (Text place text) o r b = acted d _ o (beyond-text_at d.tree text (spot_of d place) o.apart o.size (spot-good d place o r b))
  act-owned d (Comment place text) o r b = let s : Spot = spot_of d place in acted d _ o (beyond-with_new d.tree s.parent _ (kind.Comment text) o.apart o.size (spot-good d place o r b).parent)
  act-owned d (Doctype name) o r b = absurd r
  act-owned d (Detach id) o r b = acted d _ o (beyond-detached d.tree (node_of d.bound id) o.apart (node-far d id o b))
  act-owned d (MoveChildren from to) o r b =
      let from_far : k ≤ node_of d.bound from = node-far d from o b.0 in
      acted d _ o (beyond-all_put d.tree (children_of d.tree (node_of d.bound from)) (end_of d.tree (node_of d.bound to)).parent o.apart (o.apart (node_of d.bound from) from_far).children
      (end-good d.tree (node_of d.bound to) o.apart (node-far d to o b.1)).parent)
  act-owned d (AddAttributes id as') o r b = acted d _ o (beyond-kind d.tree (node_of d.bound id) (with_lacking (kind_of d.tree (node_of d.bound id)) as') o.apart (node-far d id o b))

  pub acts-owned : (d : Doc) (ops : List Op) → Owned d → AreRooted ops → AreOpsBound (is_bound d.bound) ops → Owned (acts d ops) × Beyond d.tree (acts d ops).tree
  unfolding acts AreOpsBound
  acts-owned d [] o r b = (o, beyond-same d.tree o.apart)
  acts-owned d (x ∷ xs) o r b =
      let one = act-owned d x o r.0 b.0 in
      let rest = acts-owned (act d x) xs one.0 r.1 (AreOpsBound-act d x xs b.1) in
      (rest.0, beyond-chain d.tree (act d x).tree (acts (act d x) xs).tree one.1 rest.1)

-- nothing stands from the end of a tree on
nothing-apart : (t : Nodes) → Apart (length t) t
nothing-apart t m far = subst (Good (length t)) (sym (get_or_past t m no_node far)) (record { parent = λ p is. absurd (cc); children = λ c some. absurd (omega (arith, some)); host = λ h is. absurd (cc); contents = λ c is. absurd (cc) })

-- ---- a fragment's nodes

pub empty-owned : (t : Nodes) → Owned (length t) (record { tree = t; bound = [] })
empty-owned t = record { apart = nothing-apart t; size = le_refl _; ids = λ id n is. absurd (cc) }

pub roots-bound : (form : Bool) → AreOpsBound (is_bound []) (roots_made form)
unfolding AreOpsBound
roots-bound true = (refl, (refl, tt))
roots-bound false = (refl, tt)

pub roots-rooted : (k : ℕ) (form : Bool) → AreRooted k (roots_made form)
roots-rooted k true = (tt, (tt, tt))
roots-rooted k false = (tt, tt)

-- made behind the nodes of a tree
pub record MadeBehind (t : Nodes) (d : Doc) : Type 0 where
  pub owned : Owned (length t) d
  pub beyond : Beyond (length t) t d.tree
  pub root : is_bound d.bound (root_id 0) ≡ true

pub made-behind : (t : Nodes) (form : Bool) (ops : List Op) → AreOwn t form ops → MadeBehind t (with_fragment t form ops)
made-behind t form ops own =
    let k : ℕ = length t in
    let d : Doc = record { tree = t; bound = [] } in
    let m : Doc = acts d (roots_made form) in
    let e : Doc = acts m (all_in_root ops) in
    let roots = acts-owned k d (roots_made form) (empty-owned t) (roots-rooted k form) (roots-bound form) in
    let rest = acts-owned k m (all_in_root ops) roots.0 (in_root-rooted k ops) (rooted-bound d m form ops refl refl own) in
    subst (MadeBehind t) (fragment-made d m e form ops refl refl refl) (record {
      owned = rest.0;
      beyond = beyond-chain k t m.tree e.tree roots.1 rest.1;
      root = root-bound d m e form (all_in_root ops) refl refl;
    })

pub nodes-stay : NodesStay
nodes-stay t form ops own m below = let made = made-behind t form ops own in made.beyond.same m below
