-- How a name is spelt: `&`, a letter or a digit, and more of them, with `;` perhaps at the end.
use Rattle.std.proofs.Common.{◌≡◌, ℕ, zero, suc, ◌-◌, ◌<◌, ◌==◌, ◌&&◌, ◌||◌, Bool, true, false, List, [], ◌∷◌, length, take, drop, IsAscii, refl, sym, ap, subst, arith}
use Rattle.std.specs.Prelude.{nat_lt, slice_index, if◌then◌else◌}
use Rattle.std.specs.Char.{is_ascii_alphanumeric}
use Rattle.std.specs.List.{list_all}
use Rattle.std.proofs.lemmas.Bool.{and_parts, and_from, or_left, or_right, eqb-true}
use Rattle.std.proofs.lemmas.Bool.Decides.{nat_tests}
use Rattle.standard.specs.Entities.{is_name, ends_in_semicolon}

-- with what a name goes on
abbrev pub in_spelling : ℕ → Bool
in_spelling c = is_ascii_alphanumeric c || (c == 59)

pub record Spelling (n : List ℕ) : Type 0 where
  pub first : ℕ
  pub rest : List ℕ
  pub is : n ≡ 38 ∷ first ∷ rest
  pub begins : is_ascii_alphanumeric first ≡ true
  pub goes_on : list_all in_spelling rest ≡ true

all_letters : (xs : List ℕ) → list_all is_ascii_alphanumeric xs ≡ true → list_all in_spelling xs ≡ true
all_letters [] h = refl
all_letters (x ∷ xs) h =
    let p = and_parts (is_ascii_alphanumeric x) (list_all is_ascii_alphanumeric xs) h in
    and_from (in_spelling x) _ (or_left (is_ascii_alphanumeric x) (x == 59) p.0) (all_letters xs p.1)

-- letters and digits, and a `;` behind them
all_but_last : (x : ℕ) (xs : List ℕ) → list_all is_ascii_alphanumeric (take (length xs) (x ∷ xs)) ≡ true → (slice_index (x ∷ xs) (length xs) == 59) ≡ true → list_all in_spelling (x ∷ xs) ≡ true
all_but_last x [] h last = and_from (in_spelling x) true (or_right (is_ascii_alphanumeric x) (x == 59) last) refl
all_but_last x (y ∷ ys) h last =
    let p = and_parts (is_ascii_alphanumeric x) (list_all is_ascii_alphanumeric (take (length ys) (y ∷ ys))) h in
    and_from (in_spelling x) _ (or_left (is_ascii_alphanumeric x) (x == 59) p.0) (all_but_last y ys p.1 last)

by_end : (x : ℕ) (xs : List ℕ) (v : Bool) → (slice_index (x ∷ xs) (length xs) == 59) ≡ v → x ≡ 38 → nat_lt 0 (length (drop 1 (if v then take (length xs) (x ∷ xs) else x ∷ xs))) ≡ true
    → list_all is_ascii_alphanumeric (drop 1 (if v then take (length xs) (x ∷ xs) else x ∷ xs)) ≡ true → Spelling (x ∷ xs)
by_end x [] true last e some h = cc
by_end x [] false last e some h = cc
by_end x (y ∷ ys) false last e some h =
    let p = and_parts (is_ascii_alphanumeric y) (list_all is_ascii_alphanumeric ys) h in
    record { first = y; rest = ys; is = ap (λ (n : ℕ). n ∷ y ∷ ys) e; begins = p.0; goes_on = all_letters ys p.1 }
by_end x (y ∷ []) true last e some h = cc
by_end x (y ∷ z ∷ zs) true last e some h =
    let p = and_parts (is_ascii_alphanumeric y) (list_all is_ascii_alphanumeric (take (length zs) (z ∷ zs))) h in
    record { first = y; rest = z ∷ zs; is = ap (λ (n : ℕ). n ∷ y ∷ z ∷ zs) e; begins = p.0; goes_on = all_but_last z zs p.1 last }

pub spelling : (n : List ℕ) → is_name n ≡ true → Spelling n
spelling [] h = cc
spelling (x ∷ xs) h =
    let long : length (x ∷ xs) - 1 ≡ length xs = omega arith in
    let v = ends_in_semicolon (x ∷ xs) in
    let inside = λ (n : ℕ). drop 1 (if v then take n (x ∷ xs) else x ∷ xs) in
    let p = and_parts ((x == 38) && nat_lt 0 (length (inside (length (x ∷ xs) - 1)))) (list_all is_ascii_alphanumeric (inside (length (x ∷ xs) - 1))) h in
    let q = and_parts (x == 38) (nat_lt 0 (length (inside (length (x ∷ xs) - 1)))) p.0 in
    by_end x xs v (ap (λ (n : ℕ). slice_index (x ∷ xs) n == 59) (sym long)) (eqb-true x 38 q.0)
    (subst (λ (n : ℕ). nat_lt 0 (length (inside n)) ≡ true) long q.1)
    (subst (λ (n : ℕ). list_all is_ascii_alphanumeric (inside n) ≡ true) long p.1)

-- ---- so it is ASCII

low : (c : ℕ) → in_spelling c ≡ true → c < 128
low c h = grind (arith, nat_tests)

all_ascii : (xs : List ℕ) → list_all in_spelling xs ≡ true → IsAscii xs
all_ascii [] h i = omega arith
all_ascii (x ∷ xs) h zero = low x (and_parts (in_spelling x) (list_all in_spelling xs) h).0
all_ascii (x ∷ xs) h (suc i) = all_ascii xs (and_parts (in_spelling x) (list_all in_spelling xs) h).1 i

pub name_ascii : (n : List ℕ) → is_name n ≡ true → IsAscii n
name_ascii n h =
    let s = spelling n h in
    subst IsAscii (sym s.is) (all s.first s.rest (or_left (is_ascii_alphanumeric s.first) (s.first == 59) s.begins) s.goes_on)
  where
    all : (first : ℕ) (rest : List ℕ) → in_spelling first ≡ true → list_all in_spelling rest ≡ true → IsAscii (38 ∷ first ∷ rest)
    all first rest f h zero = omega arith
    all first rest f h (suc zero) = low first f
    all first rest f h (suc (suc i)) = all_ascii rest h i
