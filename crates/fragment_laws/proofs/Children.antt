-- The target's children, once a fragment's are put there.
use Rattle.std.proofs.Common.{◌≡◌, ◌≢◌, ◌<◌, ◌≤◌, ◌+◌, inl, inr, ℕ, zero, suc, Bool, false, cond, List, [], ◌∷◌, ◌++◌, length, map, Option, Some, None, if◌then◌else◌, refl, sym, ap, subst, ◌∙◌, arith, length-set, append_assoc, append-nil}
use Rattle.std.specs.Prelude.{◌||◌, ◌&&◌, unwrap_or}
use Rattle.std.specs.Option.{option_map, option_or}
use Rattle.std.specs.List.{list_any}
use Rattle.std.proofs.lemmas.Bool.{cases_eq, cases_lt, ne_eqb, eq-eqb}
use Rattle.html_types.specs.Numbers.{count_of, without, put_in}
use Rattle.html_types.proofs.Counts.{count_of-without}
use Rattle.html_types.specs.declared.operation.Op.{Op}
use Rattle.html_types.specs.declared.open.Context.{Context}
use Rattle.html_types.specs.declared.tree.Node.{Node}
use Rattle.html_types.specs.declared.tree.Kind.{Kind}
use Rattle.standard.specs.Tree.{Nodes, IsTree, node_at, kind_of, parent_of, children_of, host_of, above_of, stands_in, is_document, is_element_at, is_second_element, is_other_element, taken_out, detached, is_impossible, moved, put_of, all_put, children_moved, all_out, emptied}
use Rattle.standard.specs.Act.{Doc, Spot, node_of}
use Rattle.standard.specs.Fragment.{root_id, fragment, context_at, with_fragment, filled, setting, set_by, inner_set}
use Rattle.doc_tree.proofs.Links.{cases_option}
use Rattle.doc_tree.proofs.Trees.{once_among, above_below}
use Rattle.doc_tree.proofs.Views.{child_here, node_here, put_in-last}
use Rattle.rule_laws.proofs.FragmentTexts.{fragment-bound}
use Rattle.fragment_laws.specs.Laws.{target_of, AreOwn, alone, root_in, further, shifted, TouchesTarget, HoldsFragment, TargetHolds, IsSet, SetsChildren}
use Rattle.fragment_laws.proofs.Apart.{node-far, MadeBehind, made-behind}
use Rattle.fragment_laws.proofs.Exchange.{loose, parent_in, loose-is, relinked-else, relinked-own, relinked-cut, first-of, more-of, other-more, out-other, all_out-bare, all_out-parent, all_out-fewer, AreAllowed, all_out-else, all_out-loose, all_put-else, all_put-loose, put-bare, all_put-bare, own-parent, parent-child, no-child, target-below, as_before, child, cs-under, cs-allowed, p-none, end-same, others-stand}
use Rattle.fragment_laws.proofs.Shifts.{count-further}
use Rattle.fragment_laws.proofs.Pairs.{Pair, Pair-fragment, node-further, root-bound-alone}

-- ---- nodes taken out, and put, one after another

length-detached : (t : Nodes) (c : ℕ) → length (detached t c) ≡ length t
length-detached t c = by (parent_of t c)
  where
    by : (u : Option ℕ) → length (taken_out t c u) ≡ length t
    by None = refl
    by (Some q) = length-set _ c _ ∙ length-set t q _

pub length-all_out : (cs : List ℕ) (t : Nodes) → length (all_out t cs) ≡ length t
length-all_out [] t = refl
length-all_out (c ∷ cs) t = length-all_out cs (detached t c) ∙ length-detached t c

-- what stands under a node that is taken out of it
out-own : (t : Nodes) (c p : ℕ) → p < length t → parent_of t c ≡ Some p → children_of (detached t c) p ≡ without c (children_of t p)
out-own t c p below link = ap (λ u. children_of (taken_out t c u) p) link ∙ relinked-own t p (without c (children_of t p)) c None below

gone-first : (t : Nodes) (c p : ℕ) → p < length t → parent_of t c ≡ Some p → count_of c (children_of (detached t c) p) ≡ 0
gone-first t c p below link =
    ap (count_of c) (out-own t c p below link) ∙ (count_of-without c c (children_of t p) ∙ ap (λ b. cond b 0 (count_of c (children_of t p))) (eq-eqb c c refl))

gone : (cs : List ℕ) (t : Nodes) (p c : ℕ) → p < length t → parent_of t c ≡ Some p → 0 < count_of c cs → count_of c (children_of (all_out t cs) p) ≡ 0
gone [] t p c below link some = absurd (omega (arith, some))
gone (x ∷ xs) t p c below link some = elim (cases_eq c x) [
  | inl same ↦ elim (cases_lt 0 (count_of c (children_of (all_out (detached t x) xs) p))) [
    | inl there ↦
        let before : 0 < count_of c (children_of (detached t x) p) = all_out-fewer (detached t x) xs p c there in
        let none : count_of c (children_of (detached t x) p) ≡ 0 = ap (λ i. count_of c (children_of (detached t i) p)) (sym same) ∙ gone-first t c p below link in
        absurd (omega (arith, before, none))
    | inr none ↦ omega (arith, none)
  ]
  | inr other ↦
      let long : length (detached t x) ≡ length t = length-detached t x in
      gone xs (detached t x) p c (omega (arith, long, below)) (out-other t x c other ∙ link) (other-more c x xs other some)
]

none-there : (xs : List ℕ) → ((c : ℕ) → count_of c xs ≡ 0) → xs ≡ []
none-there [] none = refl
none-there (x ∷ xs) none = let some : 0 < count_of x (x ∷ xs) = first-of x xs in let zero' : count_of x (x ∷ xs) ≡ 0 = none x in absurd (omega (arith, some, zero'))

-- where nothing below a number leads to it or further, nothing there stands under it
apart : (up : ℕ → Option ℕ) (size n : ℕ) → ((x y : ℕ) → x < size → up x ≡ Some y → y < size) → size ≤ n → (j x : ℕ) → x < size → stands_in up j x n ≡ false
apart up size n low far zero x below = refl
apart up size n low far (suc j) x below =
    ap (λ v. v || unwrap_or (option_map (λ q. stands_in up j q n) (up x)) false) (ne_eqb x n (λ same. absurd (omega (arith, same, far, below))))
    ∙ elim (cases_option (up x)) [
      | inl top ↦ ap (λ o. unwrap_or (option_map (λ q. stands_in up j q n) o) false) top
      | inr link ↦ ap (λ o. unwrap_or (option_map (λ q. stands_in up j q n) o) false) link.1 ∙ apart up size n low far j link.0 (low x link.0 below link.1)
    ]

abbrev above_in : Node → Option ℕ
above_in x = option_or x.host x.parent

abbrev kind_in : Node → Kind
kind_in x = x.kind

-- a node from `size` on, put last under one before it
module _ (size p : ℕ) (p_below : p < size) where
  -- what it takes
  pub record Ready (w : Nodes) : Type 0 where
    pub long : size ≤ length w
    pub low : (x y : ℕ) → x < size → above_of w x ≡ Some y → y < size
    pub plain : is_document (kind_of w p) ≡ false

  module _ (w : Nodes) (c r : ℕ) (ready : Ready w) (far : size ≤ c) (there : c < length w) (link : parent_of w c ≡ Some r) (root : size ≤ r) where
    abbrev out : Nodes
    out = detached w c

    abbrev put : Nodes
    put = put_of w c p None

    possible : is_impossible w c p ≡ false
    possible =
        ap (λ v. v || is_second_element w c p) (apart (above_of w) size c ready.low far (length w) p p_below)
        ∙ ap (λ v. v && is_element_at w c && list_any (is_other_element w c) (children_of w p)) ready.plain

    put-is : put ≡ moved w c p None
    put-is = ap (λ v. if v then w else moved w c p None) possible

    out_long : length out ≡ length w
    out_long = length-detached w c

    p_in : p < length out
    p_in = omega (arith, out_long, ready.long, p_below)

    c_in : c < length out
    c_in = omega (arith, out_long, there)

    out-same : children_of out p ≡ children_of w p
    out-same =
        ap (λ u. children_of (taken_out w c u) p) link
        ∙ ap (λ (x : Node). x.children) (relinked-else w r (without c (children_of w r)) c None p (λ same. absurd (omega (arith, same, root, p_below))) (λ same. absurd (omega (arith, same, far, p_below))))

    pub put-children : children_of put p ≡ children_of w p ++ c ∷ []
    put-children =
        ap (λ (t : Nodes). children_of t p) put-is
        ∙ (relinked-own out p (put_in (children_of out p) c None) c (Some p) p_in ∙ (put_in-last c (children_of out p) ∙ ap (λ cs. cs ++ c ∷ []) out-same))

    pub put-parent : parent_of put c ≡ Some p
    put-parent = ap (λ (t : Nodes). parent_of t c) put-is ∙ relinked-cut out p (put_in (children_of out p) c None) c (Some p) c_in

    put-long : length put ≡ length w
    put-long = ap (λ (t : Nodes). length t) put-is ∙ (length-set _ c _ ∙ (length-set out p _ ∙ out_long))

    not-c : (x : ℕ) → x < size → x ≢ c
    not-c x below same = omega (arith, same, far, below)

    pub put-ready : Ready put
    put-ready = record {
      long = omega (arith, put-long, ready.long);
      low = λ x y below is. ready.low x y below (ap above_in (sym (put-bare w c p x (not-c x below))) ∙ is);
      plain = ap (λ (x : Node). is_document x.kind) (put-bare w c p p (not-c p p_below)) ∙ ready.plain;
    }

    pub put-size : (n : ℕ) → n < length w → n < length put
    put-size n below = omega (arith, put-long, below)

  -- all children of r, one after another
  module _ (k r : ℕ) (root : size ≤ r) where
    pub record Waits (w : Nodes) (xs : List ℕ) : Type 0 where
      pub ready : Ready w
      pub far : (c : ℕ) → 0 < count_of c xs → size ≤ c + k
      pub there : (c : ℕ) → 0 < count_of c xs → c + k < length w
      pub links : (c : ℕ) → 0 < count_of c xs → parent_of w (c + k) ≡ Some r
      pub once : (c : ℕ) → count_of c xs ≤ 1

    next : (w : Nodes) (c : ℕ) (xs : List ℕ) → Waits w (c ∷ xs) → Waits (put_of w (c + k) p None) xs
    next w c xs waits =
        let here : 0 < count_of c (c ∷ xs) = first-of c xs in
        let c_far : size ≤ c + k = waits.far c here in
        let c_there : c + k < length w = waits.there c here in
        let c_link : parent_of w (c + k) ≡ Some r = waits.links c here in
        record {
          ready = put-ready w (c + k) r waits.ready c_far c_there c_link root;
          far = λ d some. waits.far d (more-of d c xs some);
          there = λ d some. put-size w (c + k) r waits.ready c_far c_there c_link root (d + k) (waits.there d (more-of d c xs some));
          links = λ d some.
              ap parent_in (put-bare w (c + k) p (d + k) (λ same. let e : d ≡ c = omega (arith, same) in twice c xs (waits.once c) (subst (λ i. 0 < count_of i xs) e some)))
              ∙ waits.links d (more-of d c xs some);
          once = λ d. fewer-once d c xs (waits.once d);
        }
      where
        twice : (c : ℕ) (xs : List ℕ) → count_of c (c ∷ xs) ≤ 1 → 0 < count_of c xs → ⊥
        twice c xs once some =
            let one : count_of c (c ∷ xs) ≡ 1 + count_of c xs = ap (λ b. cond b 1 0 + count_of c xs) (eq-eqb c c refl) in
            omega (arith, one, once, some)

        fewer-once : (d c : ℕ) (xs : List ℕ) → count_of d (c ∷ xs) ≤ 1 → count_of d xs ≤ 1
        fewer-once d c xs once = omega (arith, once)

    pub all-children : (xs : List ℕ) (w : Nodes) → Waits w xs → children_of (all_put w (map (further k) xs) p) p ≡ children_of w p ++ map (further k) xs
    all-children [] w waits = sym (append-nil (children_of w p))
    all-children (c ∷ xs) w waits =
        let here : 0 < count_of c (c ∷ xs) = first-of c xs in
        all-children xs (put_of w (c + k) p None) (next w c xs waits)
        ∙ (ap (λ cs. cs ++ map (further k) xs) (put-children w (c + k) r waits.ready (waits.far c here) (waits.there c here) (waits.links c here) root)
        ∙ append_assoc (children_of w p) ((c + k) ∷ []) (map (further k) xs))

    pub all-parents : (xs : List ℕ) (w : Nodes) → Waits w xs → (c : ℕ) → 0 < count_of c xs → parent_of (all_put w (map (further k) xs) p) (c + k) ≡ Some p
    all-parents [] w waits c some = absurd (omega (arith, some))
    all-parents (x ∷ xs) w waits c some = elim (cases_lt 0 (count_of c xs)) [
      | inl later ↦ all-parents xs (put_of w (x + k) p None) (next w x xs waits) c later
      | inr never ↦
          let here : 0 < count_of x (x ∷ xs) = first-of x xs in
          let none : count_of c xs ≡ 0 = omega (arith, never) in
          let same : c ≡ x = elim (cases_eq c x) [ inl same ↦ same | inr other ↦ (let there : 0 < count_of c xs = other-more c x xs other some in absurd (omega (arith, there, none))) ] in
          ap parent_in (all_put-bare (put_of w (x + k) p None) (map (further k) xs) p (c + k) (count-further k c xs ∙ none))
          ∙ (ap (λ i. parent_of (put_of w (x + k) p None) (i + k)) same ∙ put-parent w (x + k) r waits.ready (waits.far x here) (waits.there x here) (waits.links x here) root)
    ]

-- ---- the fragment under its target

member-further : (k : ℕ) (xs : List ℕ) (c : ℕ) → 0 < count_of c (map (further k) xs) → (x : ℕ) × (c ≡ x + k) × (0 < count_of x xs)
member-further k [] c some = absurd (omega (arith, some))
member-further k (x ∷ xs) c some = elim (cases_eq c (x + k)) [
  | inl same ↦ (x, same, first-of x xs)
  | inr other ↦ let (y, is, more) = member-further k xs c (other-more c (x + k) (map (further k) xs) other some) in (y, is, more-of y x xs more)
]

module _ (t : Nodes) (k n : ℕ) (form : Bool) (ops : List Op) (size : length t ≡ suc k) (tree : IsTree t) (below : n < length t) (own : AreOwn t form ops) (plain : is_document (kind_of t (target_of t n)) ≡ false) where
  abbrev p : ℕ
  p = target_of t n

  p_below : p < length t
  p_below = target-below t tree n below

  abbrev a : Doc
  a = alone form ops

  abbrev d : Doc
  d = with_fragment t form ops

  made : MadeBehind t d
  made = made-behind t form ops own

  pair : Pair k a d
  pair = Pair-fragment k t form ops size own

  abbrev u : Nodes
  u = d.tree

  abbrev cs : List ℕ
  cs = children_of u p

  abbrev v : Nodes
  v = all_out u cs

  -- the root alone, and behind the tree
  abbrev r0 : ℕ
  r0 = root_in a

  abbrev r : ℕ
  r = node_of d.bound (root_id 0)

  r-is : r ≡ r0 + k
  r-is = node-further k a d pair (root_id 0) (root-bound-alone k t form ops)

  r_pos : 1 ≤ r0
  r_pos = node-far 1 a (root_id 0) pair.owned (root-bound-alone k t form ops)

  abbrev xs : List ℕ
  xs = children_of a.tree r0

  -- ---- once the target's children are out

  abbrev Far : ℕ → Type 0
  Far q = length t ≤ q

  far : (m : ℕ) → 1 ≤ m → Far (m + k)
  far m pos = omega (arith, size, pos)

  far-p : Far p → ⊥
  far-p le = let less : p < length t = p_below in omega (arith, le, less)

  far-none : (m : ℕ) → Far m → count_of m cs ≡ 0
  far-none m le = elim (cases_lt 0 (count_of m cs)) [
    | inl some ↦ let less : m < length t = node_here t m p (child t tree p p_below d made m some) in absurd (omega (arith, le, less))
    | inr none ↦ omega (arith, none)
  ]

  v-far : (m : ℕ) → 1 ≤ m → node_at v (m + k) ≡ shifted k (node_at a.tree m)
  v-far m pos = all_out-else Far u cs (cs-allowed t tree p p_below d made Far far-p) (m + k) (far m pos) (far-none (m + k) (far m pos)) ∙ pair.beside.nodes m pos

  v-root : children_of v r ≡ map (further k) xs
  v-root = ap (children_of v) r-is ∙ ap (λ (x : Node). x.children) (v-far r0 r_pos)

  v-childless : children_of v p ≡ []
  v-childless = none-there (children_of v p) (λ c. elim (cases_lt 0 (count_of c (children_of v p))) [
    | inl some ↦
        let there : 0 < count_of c cs = all_out-fewer u cs p c some in
        let longer : length t ≤ length u = made.beyond.longer in
        let less : p < length t = p_below in
        let none : count_of c (children_of v p) ≡ 0 = gone cs u p c (omega (arith, longer, less)) (cs-under t tree p p_below d made c there) there in
        absurd (omega (arith, some, none))
    | inr none ↦ omega (arith, none)
  ])

  -- a child of the root
  child-link : (c : ℕ) → 0 < count_of c xs → parent_of a.tree c ≡ Some r0
  child-link c some = child_here a.tree pair.sound.tree r0 c some

  child-pos : (c : ℕ) → 0 < count_of c xs → 1 ≤ c
  child-pos c some = (pair.owned.apart r0 r_pos).children c some

  v-link : (c : ℕ) → 0 < count_of c xs → parent_of v (c + k) ≡ Some r
  v-link c some = ap parent_in (v-far c (child-pos c some)) ∙ (ap (option_map (further k)) (child-link c some) ∙ ap Some (sym r-is))

  r-far : Far r
  r-far = let e : r ≡ r0 + k = r-is in let one : 1 ≤ r0 = r_pos in omega (arith, e, one, size)

  v-ready : Ready (length t) p p_below v
  v-ready = record {
    long = let longer : length t ≤ length u = made.beyond.longer in let same : length v ≡ length u = length-all_out cs u in omega (arith, longer, same);
    low = λ x y x_below is. above_below t tree x y (low x y x_below is);
    plain = ap (λ (x : Node). is_document x.kind) (all_out-bare u cs p (p-none t tree p p_below d made)) ∙ (ap (λ (x : Node). is_document x.kind) (as_before t tree p p_below d made p p_below) ∙ plain);
  }
    where
      Olds : ℕ → Type 0
      Olds q = (q < length t) × (q ≢ p)

      host-same : (x : ℕ) → x < length t → host_of v x ≡ host_of t x
      host-same x x_below = elim (cases_eq x p) [
        | inl same ↦ ap (host_of v) same ∙ (ap (λ (y : Node). y.host) (all_out-bare u cs p (p-none t tree p p_below d made)) ∙ (ap (λ (y : Node). y.host) (as_before t tree p p_below d made p p_below) ∙ ap (host_of t) (sym same)))
        | inr other ↦
            ap (λ (y : Node). y.host) (all_out-loose Olds u cs (cs-allowed t tree p p_below d made Olds (λ old. old.1 refl)) x (x_below, other))
            ∙ ap (λ (y : Node). y.host) (as_before t tree p p_below d made x x_below)
      ]

      parent-same : (x y : ℕ) → x < length t → parent_of v x ≡ Some y → parent_of t x ≡ Some y
      parent-same x y x_below is = elim (all_out-parent u cs x) [
        | inl same ↦ sym (ap parent_in (as_before t tree p p_below d made x x_below)) ∙ (sym same ∙ is)
        | inr none ↦ absurd (cc)
      ]

      low : (x y : ℕ) → x < length t → above_of v x ≡ Some y → above_of t x ≡ Some y
      low x y x_below is = by (host_of t x) refl (ap (λ o. option_or o (parent_of v x)) (sym (host-same x x_below)) ∙ is)
        where
          by : (h : Option ℕ) → host_of t x ≡ h → option_or h (parent_of v x) ≡ Some y → option_or (host_of t x) (parent_of t x) ≡ Some y
          by None none link = ap (λ o. option_or o (parent_of t x)) none ∙ parent-same x y x_below link
          by (Some h) some link = ap (λ o. option_or o (parent_of t x)) some ∙ link

  v-waits : Waits (length t) p p_below k r r-far v xs
  v-waits = record {
    ready = v-ready;
    far = λ c some. far c (child-pos c some);
    there = λ c some. node_here v (c + k) r (v-link c some);
    links = v-link;
    once = λ c. once_among a.tree pair.sound.tree c r0;
  }

  -- ---- once the root's are there

  abbrev s : Nodes
  s = all_put v (map (further k) xs) p

  abbrev Mine : ℕ → Type 0
  Mine q = (length t ≤ q) × (q ≢ r)

  mine-p : Mine p → ⊥
  mine-p mine = far-p mine.0

  mine : (m : ℕ) → 1 ≤ m → m ≢ r0 → Mine (m + k)
  mine m pos other = (far m pos, λ same. let e : r ≡ r0 + k = r-is in other (omega (arith, same, e)))

  allowed : AreAllowed Mine v (map (further k) xs)
  allowed c some q is own' =
      let (x, same, there) = member-further k xs c some in
      let link : Some q ≡ Some r = sym is ∙ (ap (parent_of v) same ∙ v-link x there) in
      own'.1 (ap (λ o. unwrap_or o r) link)

  pub holds : HoldsFragment a k s p
  holds = record {
    children = all-children (length t) p p_below k r r-far xs v v-waits ∙ ap (λ l. l ++ map (further k) xs) v-childless;
    first = λ m link.
        let some : 0 < count_of m xs = parent-child a.tree pair.sound.tree m r0 link in
        let pos : 1 ≤ m = child-pos m some in
        let other : m ≢ r0 = λ same. own-parent a.tree pair.sound.tree r0 (subst (λ i. parent_of a.tree i ≡ Some r0) same link) in
        loose-is (node_at s (m + k)) (shifted k (node_at a.tree m)) (Some p)
        (all_put-loose Mine p mine-p v (map (further k) xs) allowed (m + k) (mine m pos other) ∙ ap loose (v-far m pos))
        (all-parents (length t) p p_below k r r-far xs v v-waits m some);
    below = λ m pos other apart'.
        let none : count_of (m + k) (map (further k) xs) ≡ 0 = count-further k m xs ∙ no-child a.tree pair.sound.tree m r0 apart' in
        all_put-else Mine p mine-p v (map (further k) xs) allowed (m + k) (mine m pos other) none ∙ v-far m pos;
  }

  s-is : children_moved v r p ≡ s
  s-is = ap (λ l. all_put v l p) v-root

  pub filled-is : filled t n form ops ≡ s
  unfolding filled emptied
  filled-is = ap (λ (spot : Spot). children_moved (emptied u spot.parent) r spot.parent) (end-same t n d made below) ∙ s-is

pub target-holds : TargetHolds
target-holds t k n form ops size tree below plain own =
    subst (λ s. HoldsFragment (alone form ops) k s (target_of t n)) (sym (filled-is t k n form ops size tree below own plain)) (holds t k n form ops size tree below own plain)

pub sets-children : SetsChildren
unfolding inner_set
sets-children es quirks t k n text s size tree below plain is = by (fragment es c text) refl is
  where
    c : Context
    c = context_at t n quirks

    by : (o : Option (List Op)) → fragment es c text ≡ o → set_by t n c.form o ≡ setting s → IsSet es quirks t k n text s
    by None none same = absurd (cc)
    by (Some ops) parsed same =
        let own : AreOwn t c.form ops = fragment-bound t es c text ops parsed in
        let made : filled t n c.form ops ≡ s = cc in
        record {
          ops = ops;
          parsed = parsed;
          holds = subst (λ x. HoldsFragment (alone c.form ops) k x (target_of t n)) made (target-holds t k n c.form ops size tree below plain own);
          touches = subst (λ x. TouchesTarget t x (target_of t n)) made (others-stand t n c.form ops tree below own);
        }
