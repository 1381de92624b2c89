-- The children of a node taken out one after another.
use Rattle.std.proofs.Common.{suc, ◌≡◌, ◌≤◌, ◌<◌, ℕ, List, [], ◌∷◌, Some, length, refl, sym, ap, ◌∙◌, subst, arith}
use Rattle.std.proofs.lemmas.Bool.Decides.{nat_tests}
use Rattle.html_types.specs.Numbers.{count_of, without}
use Rattle.standard.specs.Tree.{Nodes, IsTree, children_of, first_of, detached, all_out}
use Rattle.doc_tree.proofs.Trees.{once_among, children_of-detached}
use Rattle.doc_tree.proofs.Views.{without-split, same_some, child_here, node_here}

-- the first child is out: the others are what is left
left-children : (t : Nodes) → IsTree t → (p c : ℕ) → c < length t → (xs : List ℕ) → children_of t p ≡ c ∷ xs → children_of (detached t c) p ≡ xs
left-children t tree p c below xs is =
    children_of-detached t c tree below p ∙ (ap (without c) is ∙ without-split c [] xs (subst (λ cs. count_of c cs ≤ 1) is (once_among t tree c p)))

pub emptied-turn : (t : Nodes) → IsTree t → (p c : ℕ) → c < length t → Some c ≡ first_of (children_of t p) → all_out (detached t c) (children_of (detached t c) p) ≡ all_out t (children_of t p)
emptied-turn t tree p c below first = by (children_of t p) refl first
  where
    by : (xs : List ℕ) → children_of t p ≡ xs → Some c ≡ first_of xs → all_out (detached t c) (children_of (detached t c) p) ≡ all_out t (children_of t p)
    by [] is none = absurd (cc)
    by (x ∷ xs) is some =
        let same : c ≡ x = same_some c x some in
        let whole : children_of t p ≡ c ∷ xs = is ∙ ap (λ y. y ∷ xs) (sym same) in
        ap (all_out (detached t c)) (left-children t tree p c below xs whole) ∙ sym (ap (all_out t) whole)

pub fewer-left : (t : Nodes) → IsTree t → (p c : ℕ) → c < length t → Some c ≡ first_of (children_of t p) → length (children_of (detached t c) p) < length (children_of t p)
fewer-left t tree p c below first = by (children_of t p) refl first
  where
    by : (xs : List ℕ) → children_of t p ≡ xs → Some c ≡ first_of xs → length (children_of (detached t c) p) < length (children_of t p)
    by [] is none = absurd (cc)
    by (x ∷ xs) is some =
        let same : c ≡ x = same_some c x some in
        let whole : children_of t p ≡ c ∷ xs = is ∙ ap (λ y. y ∷ xs) (sym same) in
        let one : length (children_of (detached t c) p) ≡ length xs = ap length (left-children t tree p c below xs whole) in
        let all : length (children_of t p) ≡ suc (length xs) = ap length whole in
        omega (arith, one, all)

pub first-below : (t : Nodes) → IsTree t → (p c : ℕ) → Some c ≡ first_of (children_of t p) → c < length t
first-below t tree p c first = by (children_of t p) refl first
  where
    by : (xs : List ℕ) → children_of t p ≡ xs → Some c ≡ first_of xs → c < length t
    by [] is none = absurd (cc)
    by (x ∷ xs) is some =
        let same : c ≡ x = same_some c x some in
        node_here t c p (child_here t tree p c (subst (λ cs. 0 < count_of c cs) (sym (is ∙ ap (λ y. y ∷ xs) (sym same))) (grind (arith, nat_tests))))
