-- What comes in the Document's order is what is connected.
use Rattle.std.proofs.Common.{◌≡◌, ◌≢◌, ℕ, ◌+◌, ◌<◌, ◌≤◌, zero, suc, Bool, true, false, List, [], ◌∷◌, length, map, Option, Some, None, refl, sym, ap, ◌∙◌, inl, inr, arith}
use Rattle.std.specs.Prelude.{find}
use Rattle.std.specs.List.{concat}
use Rattle.std.proofs.lemmas.Bool.{cases_eq, cases_lt, cases_Bool, eqb-true, or_cases}
use Rattle.std.proofs.lemmas.Bool.Decides.{nat_tests}
use Rattle.html_types.specs.Numbers.{count_of}
use Rattle.html_types.proofs.Counts.{count_of-append}
use Rattle.standard.specs.Tree.{Nodes, parent_of, children_of, above_of, climb, stands_in, IsTree, order, is_connected}
use Rattle.doc_tree.proofs.Links.{cases_option, climb_le, climb_step, climb_top, climb_away}
use Rattle.doc_tree.proofs.Folds.{order_is}
use Rattle.doc_tree.proofs.Order.{above_of-parent}
use Rattle.doc_tree.proofs.Views.{child_here, node_here}

-- ---- ways up

module _ (up : ℕ → Option ℕ) where
  -- the last step of a way
  climb_last : (k n a : ℕ) → climb up (suc k) n ≡ Some a → (c : ℕ) × (climb up k n ≡ Some c) × (up c ≡ Some a)
  climb_last zero n a to = elim (cases_option (up n)) [
    | inl top ↦ let none = climb_top up zero n top in absurd cc
    | inr link ↦ (n, refl, link.1 ∙ (sym (climb_step up zero n link.0 link.1) ∙ to))
  ]
  climb_last (suc k) n a to = elim (cases_option (up n)) [
    | inl top ↦ let none = climb_top up (suc k) n top in absurd cc
    | inr link ↦
        let rest = climb_last k link.0 a (sym (climb_step up (suc k) n link.0 link.1) ∙ to) in
        (rest.0, climb_step up k n link.0 link.1 ∙ rest.1, rest.2)
  ]

  -- one step more
  climb_end : (k n c a : ℕ) → climb up k n ≡ Some c → up c ≡ Some a → climb up (suc k) n ≡ Some a
  climb_end zero n c a to link = let same : n ≡ c = cc in climb_step up 0 n a (ap up same ∙ link)
  climb_end (suc k) n c a to link = elim (cases_option (up n)) [
    | inl top ↦ let none = climb_top up k n top in absurd cc
    | inr above ↦ climb_step up (suc k) n above.0 above.1 ∙ climb_end k above.0 c a (sym (climb_step up k n above.0 above.1) ∙ to) link
  ]

  -- the way by which a search finds a
  climb_found : (k n a : ℕ) → stands_in up k n a ≡ true → (j : ℕ) × (climb up j n ≡ Some a)
  climb_found zero n a found = absurd cc
  climb_found (suc k) n a found = elim (or_cases _ _ found) [
    | inl same ↦ (0, ap Some (eqb-true n a same))
    | inr later ↦ elim (cases_option (up n)) [
      | inl top ↦ absurd (let none = rw top at later in cc)
      | inr link ↦
          let rest = climb_found k link.0 a (rw link.1 at later) in
          (suc rest.0, climb_step up rest.0 n link.0 link.1 ∙ rest.1)
    ]
  ]

-- ---- lists of lists

in_concat : (f : ℕ → List ℕ) (c n : ℕ) (xs : List ℕ) → 0 < count_of c xs → 0 < count_of n (f c) → 0 < count_of n (concat (map f xs))
in_concat f c n [] there in' = absurd (omega arith)
in_concat f c n (x ∷ xs) there in' =
    let parts = count_of-append n (f x) (concat (map f xs)) in
    elim (cases_eq x c) [
      | inl same ↦ let at : count_of n (f x) ≡ count_of n (f c) = ap (λ k. count_of n (f k)) same in omega (arith, at, in', parts)
      | inr other ↦
          let later : 0 < count_of c xs = grind (arith, nat_tests, other, there) in
          omega (arith, in_concat f c n xs later in', parts)
    ]

from_concat : (f : ℕ → List ℕ) (n : ℕ) (xs : List ℕ) → 0 < count_of n (concat (map f xs)) → (c : ℕ) × (0 < count_of c xs) × (0 < count_of n (f c))
from_concat f n [] there = absurd (omega arith)
from_concat f n (x ∷ xs) there = elim (cases_lt 0 (count_of n (f x))) [
  | inl here ↦ (x, grind (arith, nat_tests), here)
  | inr none ↦
      let rest = from_concat f n xs (omega (arith, count_of-append n (f x) (concat (map f xs)))) in
      (rest.0, omega (arith, rest.1), rest.2)
]

-- ---- the order of a node

module _ (t : Nodes) (tree : IsTree t) where
  own : (a : ℕ) → a < length t → 0 < count_of a (order t a)
  own a below = rw (order_is t tree a below) (grind (arith, nat_tests))

  -- with a child comes what comes in its order
  with_child : (a c n : ℕ) → a < length t → parent_of t c ≡ Some a → 0 < count_of n (order t c) → 0 < count_of n (order t a)
  with_child a c n below link in' =
      let child : 0 < count_of c (children_of t a) = grind (arith, nat_tests, tree.kinship c a, link) in
      let inner = in_concat (order t) c n (children_of t a) child in' in
      omega (arith, inner, ap (count_of n) (order_is t tree a below))

  -- each way up to a starts in its order
  from_way : (k n a : ℕ) → a < length t → climb (parent_of t) k n ≡ Some a → 0 < count_of n (order t a)
  from_way zero n a below to = let same : n ≡ a = cc in rw same (own a below)
  from_way (suc k) n a below to =
      let last = climb_last (parent_of t) k n a to in
      with_child a last.0 n below last.2 (from_way k n last.0 (node_here t last.0 a last.2) last.1)

  deeper : (a c d : ℕ) → parent_of t c ≡ Some a → climb (above_of t) d a ≢ None → climb (above_of t) (suc d) c ≢ None
  deeper a c d link there gone = there (sym (climb_step (above_of t) d c a (above_of-parent t tree c a link)) ∙ gone)

  -- and from each node of a's order there is one
  to_way : (j d a n : ℕ) → climb (above_of t) d a ≢ None → a < length t → length t ≤ j + d → 0 < count_of n (order t a) → (k : ℕ) × (climb (parent_of t) k n ≡ Some a)
  to_way zero d a n there below deep in' = absurd (there (climb_le (above_of t) (length t) d a (omega arith) (tree.rooted a below)))
  to_way (suc j) d a n there below deep in' = elim (cases_eq n a) [
    | inl same ↦ (0, ap Some same)
    | inr other ↦
        let parts = concat (map (order t) (children_of t a)) in
        let inner : 0 < count_of n parts = grind (arith, nat_tests, ap (count_of n) (order_is t tree a below), other, in') in
        let part = from_concat (order t) n (children_of t a) inner in
        let link = child_here t tree a part.0 part.1 in
        let rest = to_way j (suc d) part.0 n (deeper a part.0 d link there) (node_here t part.0 a link) (omega arith) part.2 in
        (suc rest.0, climb_end (parent_of t) rest.0 n part.0 a rest.1 link)
  ]

  -- a way up by parents is one by what stands above
  climb_both : (k n a : ℕ) → climb (parent_of t) k n ≡ Some a → climb (above_of t) k n ≡ Some a
  climb_both zero n a to = to
  climb_both (suc k) n a to = elim (cases_option (parent_of t n)) [
    | inl top ↦ let none = climb_top (parent_of t) k n top in absurd cc
    | inr link ↦ climb_step (above_of t) k n link.0 (above_of-parent t tree n link.0 link.1) ∙ climb_both k link.0 a (sym (climb_step (parent_of t) k n link.0 link.1) ∙ to)
  ]

  ends : (n : ℕ) → n < length t → climb (parent_of t) (length t) n ≡ None
  ends n below = elim (cases_option (climb (parent_of t) (length t) n)) [
    | inl none ↦ none
    | inr some ↦ absurd (let both = climb_both (length t) n some.0 some.1 in let none = tree.rooted n below in cc)
  ]

  in_order : (n : ℕ) → n < length t → is_connected t n ≡ true → 0 < count_of n (order t 0)
  unfolding is_connected
  in_order n below there = let way = climb_found (parent_of t) (length t) n 0 there in from_way way.0 n 0 (omega arith) way.1

  not_in_order : (n : ℕ) → n < length t → is_connected t n ≡ false → count_of n (order t 0) ≡ 0
  unfolding is_connected
  not_in_order n below away = elim (cases_lt 0 (count_of n (order t 0))) [
    | inl there ↦ let way = to_way (length t) 0 0 n (λ none. cc) (omega arith) (omega arith) there in absurd (climb_away (parent_of t) (length t) n 0 (ends n below) away way.0 way.1)
    | inr none ↦ omega arith
  ]

-- ---- what is found where one node alone passes

module _ (p : ℕ → Bool) (n : ℕ) (only : (m : ℕ) → p m ≡ true → n ≡ m) where
  find-one : p n ≡ true → (xs : List ℕ) → 0 < count_of n xs → find p xs ≡ Some n
  find-one hit [] there = absurd (omega arith)
  find-one hit (x ∷ xs) there = elim (cases_Bool (p x)) [
    | inl yes' ↦ let same = only x yes' in rw yes' (ap Some (sym same))
    | inr no' ↦
        let other : x ≢ n = λ same. let both : p x ≡ true = ap p same ∙ hit in cc in
        rw no' (find-one hit xs (grind (arith, nat_tests, other, there)))
  ]

  find-absent : (xs : List ℕ) → count_of n xs ≡ 0 → find p xs ≡ None
  find-absent [] none = refl
  find-absent (x ∷ xs) none = elim (cases_Bool (p x)) [
    | inl yes' ↦ absurd (let same = only x yes' in grind (arith, nat_tests, same, none))
    | inr no' ↦ rw no' (find-absent xs (omega arith))
  ]

  module _ (t : Nodes) (tree : IsTree t) (below : n < length t) where
    pub find-there : p n ≡ true → is_connected t n ≡ true → find p (order t 0) ≡ Some n
    find-there hit there = find-one hit (order t 0) (in_order t tree n below there)

    pub find-apart : is_connected t n ≡ false → find p (order t 0) ≡ None
    find-apart away = find-absent (order t 0) (not_in_order t tree n below away)

-- where none passes, none is found
pub find-none : (p : ℕ → Bool) → ((m : ℕ) → p m ≡ true → ⊥) → (xs : List ℕ) → find p xs ≡ None
find-none p none [] = refl
find-none p none (x ∷ xs) = elim (cases_Bool (p x)) [
  | inl yes' ↦ absurd (none x yes')
  | inr no' ↦ rw no' (find-none p none xs)
]
