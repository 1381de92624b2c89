-- How often a number stands in a list, after the list is changed.
use Rattle.std.proofs.Common.{◌≡◌, ℕ, ◌+◌, ◌<◌, ◌≤◌, zero, suc, true, false, cond, eqb, List, [], ◌∷◌, ◌++◌, length, get_or, take, drop, ap, take-append-drop, Some, None, ltb, refl, sym, arith}
use Rattle.std.specs.List.{position_or_len}
use Rattle.std.proofs.lemmas.List.Sums.{position_or_len_is}
use Rattle.std.proofs.lemmas.Bool.{ne_eqb, eq-eqb, lt-ltb, le-ltb}
use Rattle.std.specs.Prelude.{unwrap_or, position, remove, insert}
use Rattle.std.proofs.lemmas.Bool.Decides.{nat_tests}
use Rattle.html_types.specs.Numbers.{count_of, without, place_of}

pub count_of-append : (n : ℕ) (xs ys : List ℕ) → count_of n (xs ++ ys) ≡ count_of n xs + count_of n ys
count_of-append n [] ys = omega arith
count_of-append n (x ∷ xs) ys = omega (arith, count_of-append n xs ys)

pub count_of-push : (n : ℕ) (xs : List ℕ) (y : ℕ) → count_of n (xs ++ y ∷ []) ≡ count_of n xs + cond (eqb y n) 1 0
count_of-push n xs y = omega (arith, count_of-append n xs (y ∷ []))

pub count_of-without : (m n : ℕ) (xs : List ℕ) → count_of m (without n xs) ≡ cond (eqb m n) 0 (count_of m xs)
count_of-without m n [] = grind (arith, nat_tests)
count_of-without m n (x ∷ xs) = grind (arith, nat_tests, count_of-without m n xs)

pub count_of-fewer : (m n : ℕ) (xs ys : List ℕ) → ys ≡ without n xs → count_of m xs ≤ 1 → count_of m ys ≤ 1
count_of-fewer m n xs ys is once = rw is (grind (arith, nat_tests, count_of-without m n xs, once))

pub without_absent : (n : ℕ) (xs : List ℕ) → count_of n xs ≡ 0 → without n xs ≡ xs
without_absent n [] none = refl
without_absent n (x ∷ xs) none = grind (arith, nat_tests, without_absent n xs)

pub count_of-here : (xs : List ℕ) (i : ℕ) → i < length xs → 0 < count_of (get_or xs i 0) xs
count_of-here [] i below = absurd (omega arith)
count_of-here (x ∷ xs) zero below = grind (arith, nat_tests)
count_of-here (x ∷ xs) (suc i) below = omega (arith, count_of-here xs i (omega arith))

pub count_of-insert : (n : ℕ) (xs : List ℕ) (i y : ℕ) → count_of n (insert xs i y) ≡ count_of n xs + cond (eqb y n) 1 0
count_of-insert n xs i y =
    let parts = count_of-append n (take i xs) (drop i xs) in
    let whole = ap (count_of n) (take-append-drop i xs) in
    omega (arith, count_of-append n (take i xs) (y ∷ drop i xs))

-- what stands once in a list stands at one place
pub one_place : (c : ℕ) (xs : List ℕ) (k i : ℕ) → count_of c xs ≤ 1 → k < i → i < length xs → get_or xs k 0 ≡ c → get_or xs i 0 ≡ c → ⊥
one_place c [] k i once less below at_k at_i = omega arith
one_place c (x ∷ xs) k zero once less below at_k at_i = omega arith
one_place c (x ∷ xs) zero (suc i) once less below at_k at_i =
    let there : 0 < count_of (get_or xs i 0) xs = count_of-here xs i (omega arith) in
    let more : 0 < count_of c xs = rw at_i at there in
    grind (arith, nat_tests, more)
one_place c (x ∷ xs) (suc k) (suc i) once less below at_k at_i = one_place c xs k i (omega arith) (omega arith) (omega arith) at_k at_i

-- where a number stands that is in the list once
pub position-found : (xs : List ℕ) (i b : ℕ) → i < length xs → get_or xs i 0 ≡ b → count_of b xs ≤ 1 → position (λ c. eqb c b) xs ≡ Some i
position-found xs i b below at once =
    let is : position_or_len (λ x. eqb x b) xs ≡ i = position_or_len_is (λ x. eqb x b) xs i 0 (omega arith) (λ k less. ne_eqb (get_or xs k 0) b (λ same. one_place b xs k i once less below same at)) (λ _. eq-eqb (get_or xs i 0) b at) in
    let inside : ltb (position_or_len (λ x. eqb x b) xs) (length xs) ≡ true = lt-ltb _ (length xs) (rw is below) in
    rw (inside, is) refl

-- and one that isn't
pub position-none : (xs : List ℕ) (b : ℕ) → ((k : ℕ) → 0 ≤ k → k < length xs → get_or xs k 0 ≡ b → ⊥) → position (λ c. eqb c b) xs ≡ None
position-none xs b absent =
    let is : position_or_len (λ x. eqb x b) xs ≡ length xs = position_or_len_is (λ x. eqb x b) xs (length xs) 0 (omega arith) (λ k less. ne_eqb (get_or xs k 0) b (absent k (omega arith) less)) (λ less. absurd (omega arith)) in
    let outside : ltb (position_or_len (λ x. eqb x b) xs) (length xs) ≡ false = le-ltb _ (length xs) (omega (arith, is)) in
    rw outside refl

pub place_of-found : (xs : List ℕ) (i b : ℕ) → i < length xs → get_or xs i 0 ≡ b → count_of b xs ≤ 1 → place_of xs (Some b) ≡ i
place_of-found xs i b below at once = ap (λ p. unwrap_or p (length xs)) (position-found xs i b below at once)

pub place_of-child : (xs : List ℕ) (i : ℕ) → i < length xs → count_of (get_or xs i 0) xs ≤ 1 → place_of xs (Some (get_or xs i 0)) ≡ i
place_of-child xs i below once = place_of-found xs i (get_or xs i 0) below refl once

pub count_of-none : (xs : List ℕ) (b : ℕ) → ((k : ℕ) → 0 ≤ k → k < length xs → get_or xs k 0 ≡ b → ⊥) → count_of b xs ≡ 0
count_of-none [] b absent = refl
count_of-none (x ∷ xs) b absent =
    let first : eqb x b ≡ false = ne_eqb x b (absent 0 (omega arith) (omega arith)) in
    let others = count_of-none xs b (λ k le below at. absent (suc k) (omega arith) (omega arith) at) in
    rw first (omega (arith, others))

-- taking out what stands at one place takes it out of the list
pub remove-once : (n : ℕ) (xs : List ℕ) (i : ℕ) → i < length xs → get_or xs i 0 ≡ n → count_of n xs ≤ 1 → remove xs i ≡ without n xs
remove-once n [] i below at once = absurd (omega arith)
remove-once n (x ∷ xs) zero below at once =
    let first : eqb x n ≡ true = eq-eqb x n at in
    let all : 1 + count_of n xs ≤ 1 = rw first at once in
    let none : count_of n xs ≡ 0 = omega (arith, all) in
    rw first (sym (without_absent n xs none))
remove-once n (x ∷ xs) (suc i) below at once =
    let there : 0 < count_of (get_or xs i 0) xs = count_of-here xs i (omega arith) in
    let more : 0 < count_of n xs = rw at at there in
    let first : eqb x n ≡ false = ne_eqb x n (λ same. grind (arith, nat_tests, more)) in
    rw first (ap (λ ys. x ∷ ys) (remove-once n xs i (omega arith) at (omega arith)))
