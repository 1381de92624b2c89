-- The first mark, found by two searches.
use Rattle.std.proofs.Common.{◌≡◌, ℕ, Bool, List, ◌∷◌, ◌++◌, true, false, length, ◌+◌, ◌-◌, ◌<◌, ◌≤◌, ◌∙◌, take, drop, length-drop, cond, eqb, eq-eqb, not, get_or, refl, sym, ap, inl, inr}
use Rattle.std.proofs.lemmas.List.{take-append-drop, drop-drop, length-take-le}
use Rattle.std.proofs.lemmas.List.Folds.{prefix_len-append}
use native.Mathlib.Omega.{arith}
use Rattle.std.specs.List.{position_or_len}
use Rattle.std.proofs.Math.Numerals.{one-add}
use Rattle.std.proofs.lemmas.Bool.{false_from_ne_true, cases_Bool}
use Rattle.std.proofs.lemmas.Bool.Decides.{nat_tests}
use Rattle.std.proofs.lemmas.List.Recursion.{is_position_or_len}
use Rattle.std.proofs.lemmas.List.Sums.{position_or_len_is}
use Rattle.std.proofs.lemmas.Grind.{common_steps}
use Rattle.memchr.specs.Find.{NoneBefore, Nowhere, Passes, is_byte, is_byte3}
use Rattle.standard.specs.Class.{is_mark, first_mark}

pub first_place : (p : ℕ → Bool) (bytes : List ℕ) (k : ℕ) → NoneBefore (Passes p bytes) 0 (length bytes) k → Passes p bytes k → position_or_len p bytes ≡ k
first_place p bytes k none here =
    position_or_len_is p bytes k 0 (omega (arith, none.high)) (λ j h. false_from_ne_true (p (get_or bytes j 0)) (none.before j (omega arith) h)) (λ _. here)

pub no_place : (p : ℕ → Bool) (bytes : List ℕ) → Nowhere (Passes p bytes) 0 (length bytes) → position_or_len p bytes ≡ length bytes
no_place p bytes none =
    position_or_len_is p bytes (length bytes) 0 (omega arith) (λ j h. false_from_ne_true (p (get_or bytes j 0)) (none j (omega arith) h)) (λ h. absurd (omega (arith, h)))

-- the first mark by both searches
abbrev found : List ℕ → ℕ
found bytes = position_or_len (is_byte 0) (take (position_or_len (is_byte3 60 38 13) bytes) bytes)

found_step : (x : ℕ) (xs : List ℕ) → found (x ∷ xs) ≡ cond (is_mark x) 0 (1 + found xs)
found_step x xs = elim (cases_Bool (is_byte3 60 38 13 x)) [
  | inl other ↦ grind (arith, common_steps, other)
  | inr plain ↦
      let reads : found (x ∷ xs) ≡ cond (not (is_byte 0 x)) (1 + found xs) 0 = rw plain rw (one-add (position_or_len (is_byte3 60 38 13) xs)) refl in
      grind (arith, common_steps, plain, reads)
]

pub nul_before : (bytes : List ℕ) → first_mark bytes ≡ found bytes
nul_before bytes = sym (is_position_or_len found is_mark refl found_step bytes)

pub nul_found : (bytes : List ℕ) (end k : ℕ) → end ≡ position_or_len (is_byte3 60 38 13) bytes → position_or_len (is_byte 0) (take end bytes) ≡ k → k ≡ first_mark bytes
nul_found bytes end k at nul = sym (nul_before bytes ∙ rw (sym at) nul)

pub ruleset places = (first_place, no_place)

pub ruleset marks = (first_place, no_place, nul_before)

-- ---- a window at a time

-- a window of the bytes, and what stands behind it
pub passed_by : (bytes first : List ℕ) (passed behind : ℕ) → passed ≤ behind → behind ≤ length bytes → first ≡ take (behind - passed) (drop passed bytes)
    → first_mark (drop passed bytes) ≡ cond (eqb (first_mark first) (length first)) (length first + first_mark (drop behind bytes)) (first_mark first)
passed_by bytes first passed behind h k is =
    let n = behind - passed in
    let place : passed + n ≡ behind = omega arith in
    let rest : drop n (drop passed bytes) ≡ drop behind bytes = drop-drop n passed bytes ∙ ap (λ m. drop m bytes) place in
    let whole : drop passed bytes ≡ first ++ drop behind bytes = sym (take-append-drop n (drop passed bytes)) ∙ ap (λ l. l ++ drop n (drop passed bytes)) (sym is) ∙ ap (λ l. first ++ l) rest in
    ap first_mark whole ∙ prefix_len-append (λ x. not (is_mark x)) first (drop behind bytes)

window_size : (bytes first : List ℕ) (passed behind : ℕ) → behind ≤ length bytes → first ≡ take (behind - passed) (drop passed bytes) → length first ≡ behind - passed
window_size bytes first passed behind k is =
    ap length is ∙ length-take-le (behind - passed) (drop passed bytes) (omega (arith, length-drop passed bytes))

-- the window has the first mark
pub in_window : (bytes first : List ℕ) (passed behind place : ℕ) → passed ≤ behind → behind ≤ length bytes → first ≡ take (behind - passed) (drop passed bytes)
    → place ≡ first_mark first → first_mark bytes ≡ passed + first_mark (drop passed bytes) → passed + place < behind → passed + place ≡ first_mark bytes
in_window bytes first passed behind place h k is at all lt =
    let size : length first ≡ behind - passed = window_size bytes first passed behind k is in
    let inside : first_mark first < length first = omega arith in
    let no : eqb (first_mark first) (length first) ≡ false = grind (arith, nat_tests, inside) in
    let here : first_mark (drop passed bytes) ≡ first_mark first = passed_by bytes first passed behind h k is ∙ rw no refl in
    omega arith

-- the window has none
pub past_window : (bytes first : List ℕ) (passed behind place : ℕ) → passed ≤ behind → behind ≤ length bytes → first ≡ take (behind - passed) (drop passed bytes)
    → place ≡ first_mark first → place ≤ length first → first_mark bytes ≡ passed + first_mark (drop passed bytes) → behind ≤ passed + place
    → first_mark bytes ≡ behind + first_mark (drop behind bytes)
past_window bytes first passed behind place h k is at most all le =
    let size : length first ≡ behind - passed = window_size bytes first passed behind k is in
    let end : first_mark first ≡ length first = omega arith in
    let yes : eqb (first_mark first) (length first) ≡ true = eq-eqb (first_mark first) (length first) end in
    let there : first_mark (drop passed bytes) ≡ length first + first_mark (drop behind bytes) = passed_by bytes first passed behind h k is ∙ rw yes refl in
    omega arith
