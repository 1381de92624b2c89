-- The children of a node taken out, and those of a root behind it put there.
use Rattle.std.proofs.Common.{◌≡◌, ◌≢◌, ◌<◌, ◌≤◌, ◌+◌, ◌⊎◌, inl, inr, ℕ, zero, suc, Bool, true, false, cond, eqb, List, [], ◌∷◌, length, Option, Some, None, if◌then◌else◌, refl, sym, ap, subst, ◌∙◌, arith, true≢false, length-set, get_or-set_same}
use Rattle.std.specs.Prelude.{unwrap_or, option_and_then}
use Rattle.std.specs.Option.{option_or}
use Rattle.std.proofs.lemmas.Bool.{cases_eq, cases_lt, ne_eqb, eq-eqb}
use Rattle.std.proofs.lemmas.List.{get_or_past}
use Rattle.html_types.specs.Numbers.{count_of, without, put_in}
use Rattle.html_types.proofs.Counts.{count_of-without}
use Rattle.html_types.specs.declared.tree.Node.{Node}
use Rattle.standard.specs.Tree.{Nodes, IsTree, no_node, node_at, parent_of, children_of, host_of, contents_of, above_of, climb, leads_to, with_children, relinked, taken_out, detached, is_impossible, moved, put_of, all_put, children_moved, all_out, emptied}
use Rattle.standard.specs.Act.{Doc, Spot, node_of, end_of}
use Rattle.standard.specs.Fragment.{root_id, with_fragment, filled}
use Rattle.doc_tree.proofs.Trees.{parent_below}
use Rattle.doc_tree.proofs.Views.{child_here, node_here}
use Rattle.fragment_laws.specs.Laws.{target_of, TouchesTarget, OthersStand}
use Rattle.fragment_laws.proofs.Apart.{set-either, elsewhere, node-far, MadeBehind, made-behind}

-- a node but for its children, and but for its parent
abbrev pub bare : Node → Node
bare x = record x { children = [] }

abbrev pub loose : Node → Node
loose x = record x { parent = None }

abbrev pub parent_in : Node → Option ℕ
parent_in x = x.parent

abbrev pub children_in : Node → List ℕ
children_in x = x.children

bare-is : (x y : Node) → bare x ≡ bare y → x ≡ record y { children = x.children }
bare-is x y h = ap (λ (z : Node). record z { children = x.children }) h

pub loose-is : (x y : Node) (u : Option ℕ) → loose x ≡ loose y → x.parent ≡ u → x ≡ record y { parent = u }
loose-is x y u h is = ap (λ (v : Option ℕ). record x { parent = v }) is ∙ ap (λ (z : Node). record z { parent = u }) h

-- ---- the children of one node and the parent of another, written

module _ (t : Nodes) (q : ℕ) (xs : List ℕ) (c : ℕ) (u : Option ℕ) where
  abbrev first : Nodes
  first = with_children t q xs

  abbrev now : Nodes
  now = relinked t q xs c u

  -- what either writes
  abbrev children_new : Node
  children_new = record (node_at t q) { children = xs }

  abbrev parent_new : Node
  parent_new = record (node_at first c) { parent = u }

  pub relinked-else : (m : ℕ) → m ≢ q → m ≢ c → node_at now m ≡ node_at t m
  relinked-else m other child = elsewhere first c parent_new m child ∙ elsewhere t q children_new m other

  first-bare : (m : ℕ) → bare (node_at first m) ≡ bare (node_at t m)
  first-bare m = elim (set-either t q children_new m) [
    | inl old ↦ ap bare old
    | inr new ↦ ap bare new.1 ∙ ap (λ n. bare (node_at t n)) (sym new.0)
  ]

  first-parent : (m : ℕ) → parent_of first m ≡ parent_of t m
  first-parent m = ap parent_in (first-bare m)

  pub relinked-bare : (m : ℕ) → m ≢ c → bare (node_at now m) ≡ bare (node_at t m)
  relinked-bare m child = ap bare (elsewhere first c parent_new m child) ∙ first-bare m

  now-loose : (m : ℕ) → loose (node_at now m) ≡ loose (node_at first m)
  now-loose m = elim (set-either first c parent_new m) [
    | inl old ↦ ap loose old
    | inr new ↦ ap loose new.1 ∙ ap (λ n. loose (node_at first n)) (sym new.0)
  ]

  pub relinked-loose : (m : ℕ) → m ≢ q → loose (node_at now m) ≡ loose (node_at t m)
  relinked-loose m other = now-loose m ∙ ap loose (elsewhere t q children_new m other)

  relinked-parent : (m : ℕ) → (parent_of now m ≡ parent_of t m) ⊎ ((m ≡ c) × (parent_of now m ≡ u))
  relinked-parent m = elim (set-either first c parent_new m) [
    | inl old ↦ inl (ap parent_in old ∙ first-parent m)
    | inr new ↦ inr (new.0, ap parent_in new.1)
  ]

  pub relinked-cut : c < length t → parent_of now c ≡ u
  relinked-cut below =
      let long : length first ≡ length t = length-set t q children_new in
      ap parent_in (get_or-set_same first c parent_new no_node (omega (arith, below, long)))

  relinked-children : (m : ℕ) → (children_of now m ≡ children_of t m) ⊎ ((m ≡ q) × (children_of now m ≡ xs))
  relinked-children m =
      let same : children_of now m ≡ children_of first m = ap children_in (now-loose m) in
      elim (set-either t q children_new m) [
        | inl old ↦ inl (same ∙ ap children_in old)
        | inr new ↦ inr (new.0, same ∙ ap children_in new.1)
      ]

  pub relinked-own : q < length t → children_of now q ≡ xs
  relinked-own below = ap children_in (now-loose q) ∙ ap children_in (get_or-set_same t q children_new no_node below)

-- ---- lists of children

pub first-of : (c : ℕ) (cs : List ℕ) → 0 < count_of c (c ∷ cs)
first-of c cs =
    let one : count_of c (c ∷ cs) ≡ 1 + count_of c cs = ap (λ b. cond b 1 0 + count_of c cs) (eq-eqb c c refl) in
    omega (arith, one)

pub more-of : (d c : ℕ) (cs : List ℕ) → 0 < count_of d cs → 0 < count_of d (c ∷ cs)
more-of d c cs some = omega (arith, some)

pub none-first : (m c : ℕ) (cs : List ℕ) → count_of m (c ∷ cs) ≡ 0 → m ≢ c
none-first m c cs none = λ same. let some : 0 < count_of m (c ∷ cs) = subst (λ d. 0 < count_of d (c ∷ cs)) (sym same) (first-of c cs) in absurd (omega (arith, some, none))

pub none-more : (m c : ℕ) (cs : List ℕ) → count_of m (c ∷ cs) ≡ 0 → count_of m cs ≡ 0
none-more m c cs none = omega (arith, none)

pub other-more : (m c : ℕ) (cs : List ℕ) → m ≢ c → 0 < count_of m (c ∷ cs) → 0 < count_of m cs
other-more m c cs other some =
    let less : count_of m (c ∷ cs) ≡ 0 + count_of m cs = ap (λ b. cond b 1 0 + count_of m cs) (ne_eqb c m (λ e. other (sym e))) in
    omega (arith, some, less)

-- ---- a node taken out

module _ (t : Nodes) (c : ℕ) where
  out-bare : (m : ℕ) → m ≢ c → bare (node_at (detached t c) m) ≡ bare (node_at t m)
  out-bare m child = by (parent_of t c)
    where
      by : (u : Option ℕ) → bare (node_at (taken_out t c u) m) ≡ bare (node_at t m)
      by None = refl
      by (Some q) = relinked-bare t q (without c (children_of t q)) c None m child

  out-parent : (m : ℕ) → (parent_of (detached t c) m ≡ parent_of t m) ⊎ ((m ≡ c) × (parent_of (detached t c) m ≡ None))
  out-parent m = by (parent_of t c)
    where
      by : (u : Option ℕ) → (parent_of (taken_out t c u) m ≡ parent_of t m) ⊎ ((m ≡ c) × (parent_of (taken_out t c u) m ≡ None))
      by None = inl refl
      by (Some q) = relinked-parent t q (without c (children_of t q)) c None m

  pub out-other : (m : ℕ) → m ≢ c → parent_of (detached t c) m ≡ parent_of t m
  out-other m other = ap parent_in (out-bare m other)

  out-cut : parent_of (detached t c) c ≡ None
  out-cut = by (parent_of t c) refl
    where
      by : (u : Option ℕ) → parent_of t c ≡ u → parent_of (taken_out t c u) c ≡ None
      by None is = is
      by (Some q) is = relinked-cut t q (without c (children_of t q)) c None (node_here t c q is)

  less : (d q : ℕ) → 0 < count_of d (without c (children_of t q)) → 0 < count_of d (children_of t q)
  less d q some = by (eqb d c) (count_of-without d c (children_of t q))
    where
      by : (b : Bool) → count_of d (without c (children_of t q)) ≡ cond b 0 (count_of d (children_of t q)) → 0 < count_of d (children_of t q)
      by true is = absurd (omega (arith, some, is))
      by false is = omega (arith, some, is)

  pub fewer : (m d : ℕ) → 0 < count_of d (children_of (detached t c) m) → 0 < count_of d (children_of t m)
  fewer m d = by (parent_of t c)
    where
      by : (u : Option ℕ) → 0 < count_of d (children_of (taken_out t c u) m) → 0 < count_of d (children_of t m)
      by None some = some
      by (Some q) some = elim (relinked-children t q (without c (children_of t q)) c None m) [
        | inl same ↦ subst (λ xs. 0 < count_of d xs) same some
        | inr new ↦ subst (λ n. 0 < count_of d (children_of t n)) (sym new.0) (less d q (subst (λ xs. 0 < count_of d xs) new.1 some))
      ]

  out-none : (m : ℕ) → parent_of t m ≡ None → parent_of (detached t c) m ≡ None
  out-none m none = elim (out-parent m) [
    | inl same ↦ same ∙ none
    | inr new ↦ new.1
  ]

pub all_out-bare : (t : Nodes) (cs : List ℕ) (m : ℕ) → count_of m cs ≡ 0 → bare (node_at (all_out t cs) m) ≡ bare (node_at t m)
all_out-bare t [] m none = refl
all_out-bare t (c ∷ cs) m none = all_out-bare (detached t c) cs m (none-more m c cs none) ∙ out-bare t c m (none-first m c cs none)

all_out-none : (t : Nodes) (cs : List ℕ) (m : ℕ) → parent_of t m ≡ None → parent_of (all_out t cs) m ≡ None
all_out-none t [] m none = none
all_out-none t (c ∷ cs) m none = all_out-none (detached t c) cs m (out-none t c m none)

all_out-cut : (t : Nodes) (cs : List ℕ) (m : ℕ) → 0 < count_of m cs → parent_of (all_out t cs) m ≡ None
all_out-cut t [] m some = absurd (omega (arith, some))
all_out-cut t (c ∷ cs) m some = elim (cases_eq m c) [
  | inl same ↦ all_out-none (detached t c) cs m (ap (λ n. parent_of (detached t c) n) same ∙ out-cut t c)
  | inr other ↦ all_out-cut (detached t c) cs m (other-more m c cs other some)
]

-- what is above a node then was above it before
pub all_out-parent : (t : Nodes) (cs : List ℕ) (m : ℕ) → (parent_of (all_out t cs) m ≡ parent_of t m) ⊎ (parent_of (all_out t cs) m ≡ None)
all_out-parent t [] m = inl refl
all_out-parent t (c ∷ cs) m = elim (out-parent t c m) [
  | inl same ↦ elim (all_out-parent (detached t c) cs m) [ inl kept ↦ inl (kept ∙ same) | inr none ↦ inr none ]
  | inr cut ↦ inr (all_out-none (detached t c) cs m cut.1)
]

pub all_out-fewer : (t : Nodes) (cs : List ℕ) (m d : ℕ) → 0 < count_of d (children_of (all_out t cs) m) → 0 < count_of d (children_of t m)
all_out-fewer t [] m d some = some
all_out-fewer t (c ∷ cs) m d some = fewer t c m d (all_out-fewer (detached t c) cs m d some)

-- ---- nodes that no node stands under that is taken out or put somewhere

module _ (Mine : ℕ → Type 0) where
  abbrev pub Allowed : Option ℕ → Type 0
  Allowed u = (q : ℕ) → u ≡ Some q → Mine q → ⊥

  none-allowed : Allowed None
  none-allowed q is mine = absurd (cc)

  module _ (t : Nodes) (c : ℕ) where
    out-else : Allowed (parent_of t c) → (m : ℕ) → Mine m → m ≢ c → node_at (detached t c) m ≡ node_at t m
    out-else allowed m mine child = by (parent_of t c) refl
      where
        by : (u : Option ℕ) → parent_of t c ≡ u → node_at (taken_out t c u) m ≡ node_at t m
        by None is = refl
        by (Some q) is = relinked-else t q (without c (children_of t q)) c None m (λ same. allowed q is (subst Mine same mine)) child

    out-loose : Allowed (parent_of t c) → (m : ℕ) → Mine m → loose (node_at (detached t c) m) ≡ loose (node_at t m)
    out-loose allowed m mine = by (parent_of t c) refl
      where
        by : (u : Option ℕ) → parent_of t c ≡ u → loose (node_at (taken_out t c u) m) ≡ loose (node_at t m)
        by None is = refl
        by (Some q) is = relinked-loose t q (without c (children_of t q)) c None m (λ same. allowed q is (subst Mine same mine))

    out-allowed : (d : ℕ) → Allowed (parent_of t d) → Allowed (parent_of (detached t c) d)
    out-allowed d allowed = elim (out-parent t c d) [
      | inl same ↦ subst Allowed (sym same) allowed
      | inr new ↦ subst Allowed (sym new.1) none-allowed
    ]

  abbrev pub AreAllowed : Nodes → List ℕ → Type 0
  AreAllowed t cs = (c : ℕ) → 0 < count_of c cs → Allowed (parent_of t c)

  rest-allowed : (t : Nodes) (c : ℕ) (cs : List ℕ) → AreAllowed t (c ∷ cs) → AreAllowed (detached t c) cs
  rest-allowed t c cs allowed d some = out-allowed t c d (allowed d (more-of d c cs some))

  pub all_out-else : (t : Nodes) (cs : List ℕ) → AreAllowed t cs → (m : ℕ) → Mine m → count_of m cs ≡ 0 → node_at (all_out t cs) m ≡ node_at t m
  all_out-else t [] allowed m mine none = refl
  all_out-else t (c ∷ cs) allowed m mine none =
      all_out-else (detached t c) cs (rest-allowed t c cs allowed) m mine (none-more m c cs none)
      ∙ out-else t c (allowed c (first-of c cs)) m mine (none-first m c cs none)

  pub all_out-loose : (t : Nodes) (cs : List ℕ) → AreAllowed t cs → (m : ℕ) → Mine m → loose (node_at (all_out t cs) m) ≡ loose (node_at t m)
  all_out-loose t [] allowed m mine = refl
  all_out-loose t (c ∷ cs) allowed m mine =
      all_out-loose (detached t c) cs (rest-allowed t c cs allowed) m mine ∙ out-loose t c (allowed c (first-of c cs)) m mine

  pub all_out-allowed : (t : Nodes) (cs : List ℕ) (d : ℕ) → Allowed (parent_of t d) → Allowed (parent_of (all_out t cs) d)
  all_out-allowed t [] d allowed = allowed
  all_out-allowed t (c ∷ cs) d allowed = all_out-allowed (detached t c) cs d (out-allowed t c d allowed)

  -- ---- nodes put under p

  module _ (p : ℕ) (p_other : Mine p → ⊥) where
    module _ (t : Nodes) (c : ℕ) where
      abbrev ins : List ℕ
      ins = put_in (children_of (detached t c) p) c None

      not_p : (m : ℕ) → Mine m → m ≢ p
      not_p m mine same = p_other (subst Mine same mine)

      put-else : Allowed (parent_of t c) → (m : ℕ) → Mine m → m ≢ c → node_at (put_of t c p None) m ≡ node_at t m
      put-else allowed m mine child = by (is_impossible t c p)
        where
          by : (b : Bool) → node_at (if b then t else moved t c p None) m ≡ node_at t m
          by true = refl
          by false = relinked-else (detached t c) p ins c (Some p) m (not_p m mine) child ∙ out-else t c allowed m mine child

      put-loose : Allowed (parent_of t c) → (m : ℕ) → Mine m → loose (node_at (put_of t c p None) m) ≡ loose (node_at t m)
      put-loose allowed m mine = by (is_impossible t c p)
        where
          by : (b : Bool) → loose (node_at (if b then t else moved t c p None) m) ≡ loose (node_at t m)
          by true = refl
          by false = relinked-loose (detached t c) p ins c (Some p) m (not_p m mine) ∙ out-loose t c allowed m mine

      put-allowed : (d : ℕ) → Allowed (parent_of t d) → Allowed (parent_of (put_of t c p None) d)
      put-allowed d allowed = by (is_impossible t c p)
        where
          under : Allowed (Some p)
          under q is mine = p_other (subst Mine (ap (λ o. unwrap_or o p) (sym is)) mine)

          by : (b : Bool) → Allowed (parent_of (if b then t else moved t c p None) d)
          by true = allowed
          by false = elim (relinked-parent (detached t c) p ins c (Some p) d) [
            | inl same ↦ subst Allowed (sym same) (out-allowed t c d allowed)
            | inr new ↦ subst Allowed (sym new.1) under
          ]

    rest-put : (t : Nodes) (c : ℕ) (cs : List ℕ) → AreAllowed t (c ∷ cs) → AreAllowed (put_of t c p None) cs
    rest-put t c cs allowed d some = put-allowed t c d (allowed d (more-of d c cs some))

    pub all_put-else : (t : Nodes) (cs : List ℕ) → AreAllowed t cs → (m : ℕ) → Mine m → count_of m cs ≡ 0 → node_at (all_put t cs p) m ≡ node_at t m
    all_put-else t [] allowed m mine none = refl
    all_put-else t (c ∷ cs) allowed m mine none =
        all_put-else (put_of t c p None) cs (rest-put t c cs allowed) m mine (none-more m c cs none)
        ∙ put-else t c (allowed c (first-of c cs)) m mine (none-first m c cs none)

    pub all_put-loose : (t : Nodes) (cs : List ℕ) → AreAllowed t cs → (m : ℕ) → Mine m → loose (node_at (all_put t cs p) m) ≡ loose (node_at t m)
    all_put-loose t [] allowed m mine = refl
    all_put-loose t (c ∷ cs) allowed m mine =
        all_put-loose (put_of t c p None) cs (rest-put t c cs allowed) m mine ∙ put-loose t c (allowed c (first-of c cs)) m mine

-- a node that isn't put somewhere, but for its children
pub put-bare : (t : Nodes) (c p m : ℕ) → m ≢ c → bare (node_at (put_of t c p None) m) ≡ bare (node_at t m)
put-bare t c p m other = by (is_impossible t c p)
  where
    by : (b : Bool) → bare (node_at (if b then t else moved t c p None) m) ≡ bare (node_at t m)
    by true = refl
    by false = relinked-bare (detached t c) p (put_in (children_of (detached t c) p) c None) c (Some p) m other ∙ out-bare t c m other

pub all_put-bare : (t : Nodes) (cs : List ℕ) (p m : ℕ) → count_of m cs ≡ 0 → bare (node_at (all_put t cs p) m) ≡ bare (node_at t m)
all_put-bare t [] p m none = refl
all_put-bare t (c ∷ cs) p m none = all_put-bare (put_of t c p None) cs p m (none-more m c cs none) ∙ put-bare t c p m (none-first m c cs none)

-- ---- facts of a tree

-- nothing is its own parent
loops : (up : ℕ → Option ℕ) (n : ℕ) → up n ≡ Some n → (j : ℕ) → climb up j n ≡ Some n
loops up n is zero = refl
loops up n is (suc j) = ap (option_and_then (climb up j)) is ∙ loops up n is j

pub own-parent : (t : Nodes) → IsTree t → (p : ℕ) → parent_of t p ≡ Some p → ⊥
own-parent t tree p is = by (host_of t p) refl
  where
    by : (h : Option ℕ) → host_of t p ≡ h → ⊥
    by (Some h) host = let none : parent_of t p ≡ None = tree.apart p h host in absurd (cc)
    by None host =
        let up : above_of t p ≡ Some p = ap (λ o. option_or o (parent_of t p)) host ∙ is in
        let some : climb (above_of t) (length t) p ≡ Some p = loops (above_of t) p up (length t) in
        let none : climb (above_of t) (length t) p ≡ None = tree.rooted p (parent_below t tree p p is) in
        absurd (cc)

pub parent-child : (t : Nodes) → IsTree t → (c p : ℕ) → parent_of t c ≡ Some p → 0 < count_of c (children_of t p)
parent-child t tree c p is =
    let one : leads_to (parent_of t c) p ≡ true = ap (λ o. leads_to o p) is ∙ eq-eqb p p refl in
    let n : count_of c (children_of t p) ≡ 1 = tree.kinship c p ∙ ap (λ b. cond b 1 0) one in
    omega (arith, n)

pub no-child : (t : Nodes) → IsTree t → (c p : ℕ) → parent_of t c ≢ Some p → count_of c (children_of t p) ≡ 0
no-child t tree c p other = elim (cases_lt 0 (count_of c (children_of t p))) [
  | inl some ↦ absurd (other (child_here t tree p c some))
  | inr none ↦ omega (arith, none)
]

-- a template's contents are a node
abbrev host_in : Node → Option ℕ
host_in x = x.host

pub leads : (o : Option ℕ) (p : ℕ) → leads_to o p ≡ true → o ≡ Some p
leads None p is = absurd (cc)
leads (Some q) p is = elim (cases_eq q p) [
  | inl same ↦ ap Some same
  | inr other ↦ absurd (true≢false (sym is ∙ ne_eqb q p other))
]

pub target-below : (t : Nodes) → IsTree t → (n : ℕ) → n < length t → target_of t n < length t
target-below t tree n below = by (contents_of t n) refl
  where
    by : (c : Option ℕ) → contents_of t n ≡ c → unwrap_or c n < length t
    by None is = below
    by (Some c) is = elim (cases_lt c (length t)) [
      | inl here ↦ here
      | inr past ↦
          let hosted : leads_to (host_of t c) n ≡ true = sym (tree.hosting c n) ∙ (ap (λ o. leads_to o c) is ∙ eq-eqb c c refl) in
          let some : host_of t c ≡ Some n = leads (host_of t c) n hosted in
          let none : host_of t c ≡ None = ap host_in (get_or_past t c no_node past) in
          absurd (cc)
    ]

-- ---- the exchange

module _ (t : Nodes) (tree : IsTree t) (p : ℕ) (p_below : p < length t) (d : Doc) (made : MadeBehind t d) where
  abbrev k : ℕ
  k = length t

  abbrev u : Nodes
  u = d.tree

  abbrev cs : List ℕ
  cs = children_of u p

  -- the target's children are out
  abbrev v : Nodes
  v = all_out u cs

  abbrev r : ℕ
  r = node_of d.bound (root_id 0)

  -- and the root's there
  abbrev s : Nodes
  s = all_put v (children_of v r) p

  pub as_before : (m : ℕ) → m < k → node_at u m ≡ node_at t m
  as_before m below = made.beyond.same m below

  pub cs-are : cs ≡ children_of t p
  cs-are = ap children_in (as_before p p_below)

  pub child : (c : ℕ) → 0 < count_of c cs → parent_of t c ≡ Some p
  child c some = child_here t tree p c (subst (λ xs. 0 < count_of c xs) cs-are some)

  no_child : (c : ℕ) → parent_of t c ≢ Some p → count_of c cs ≡ 0
  no_child c other = ap (count_of c) cs-are ∙ no-child t tree c p other

  -- they stand under the target alone
  pub cs-under : (c : ℕ) → 0 < count_of c cs → parent_of u c ≡ Some p
  cs-under c some = let there : parent_of t c ≡ Some p = child c some in ap parent_in (as_before c (node_here t c p there)) ∙ there

  pub cs-allowed : (Mine : ℕ → Type 0) → (Mine p → ⊥) → AreAllowed Mine u cs
  cs-allowed Mine other c some q is mine =
      let same : Some q ≡ Some p = sym is ∙ cs-under c some in
      other (subst Mine (ap (λ o. unwrap_or o p) same) mine)

  pub r-far : k ≤ r
  r-far = node-far k d (root_id 0) made.owned made.root

  under-far : (c : ℕ) → 0 < count_of c (children_of v r) → k ≤ c
  under-far c some = let good = made.owned.apart r r-far in good.children c (all_out-fewer u cs r c some)

  pub not-own : parent_of t p ≢ Some p
  not-own = λ is. own-parent t tree p is

  pub p-none : count_of p cs ≡ 0
  p-none = no_child p not-own

  -- the nodes that there were, but the target
  abbrev Old : ℕ → Type 0
  Old m = (m < k) × (m ≢ p)

  old-p : Old p → ⊥
  old-p old = old.1 refl

  under-allowed : AreAllowed Old v (children_of v r)
  under-allowed c some =
      let good = made.owned.apart c (under-far c some) in
      all_out-allowed Old u cs c (λ q is old. let far : k ≤ q = good.parent q is in absurd (omega (arith, far, old.0)))

  far-none : (m : ℕ) → m < k → count_of m (children_of v r) ≡ 0
  far-none m below = elim (cases_lt 0 (count_of m (children_of v r))) [
    | inl some ↦ let far : k ≤ m = under-far m some in absurd (omega (arith, far, below))
    | inr none ↦ omega (arith, none)
  ]

  s-else : (m : ℕ) → Old m → node_at s m ≡ node_at v m
  s-else m old = all_put-else Old p old-p v (children_of v r) under-allowed m old (far-none m old.0)

  pub touches : TouchesTarget t s p
  touches = record {
    others = λ m below other parent. s-else m (below, other) ∙ (all_out-else Old u cs (cs-allowed Old old-p) m (below, other) (no_child m parent) ∙ as_before m below);
    taken = λ m below parent.
        let other : m ≢ p = λ same. not-own (subst (λ n. parent_of t n ≡ Some p) same parent) in
        let some : 0 < count_of m cs = subst (λ xs. 0 < count_of m xs) (sym cs-are) (parent-child t tree m p parent) in
        s-else m (below, other)
        ∙ loose-is (node_at v m) (node_at t m) None (all_out-loose Old u cs (cs-allowed Old old-p) m (below, other) ∙ ap loose (as_before m below)) (all_out-cut u cs m some);
    target =
        bare-is (node_at s p) (node_at t p)
        (all_put-bare v (children_of v r) p p (far-none p p_below) ∙ (all_out-bare u cs p p-none ∙ ap bare (as_before p p_below)));
  }

abbrev end_in : Option ℕ → ℕ → Spot
end_in c n = record { parent = unwrap_or c n; before = None }

-- the target stands in the tree with the fragment as it did
pub end-same : (t : Nodes) (n : ℕ) (d : Doc) → MadeBehind t d → n < length t → end_of d.tree n ≡ end_of t n
end-same t n d made below = ap (λ (x : Node). end_in x.contents n) (made.beyond.same n below)

pub others-stand : OthersStand
unfolding filled emptied
others-stand t n form ops tree below own =
    let d : Doc = with_fragment t form ops in
    let made : MadeBehind t d = made-behind t form ops own in
    let p : ℕ = target_of t n in
    subst (λ (spot : Spot). TouchesTarget t (children_moved (emptied d.tree spot.parent) (node_of d.bound (root_id 0)) spot.parent) p) (sym (end-same t n d made below))
    (touches t tree p (target-below t tree n below) d made)
