-- The lines of a list, one by one.
use Rattle.std.proofs.Common.{◌≡◌, ◌≤◌, ◌<◌, ◌+◌, ℕ, zero, suc, Bool, true, false, true≢false, List, [], ◌∷◌, ◌++◌, append_assoc, append-nil, length, length-drop, take, drop, refl, sym, ap, ◌∙◌, arith}
use Rattle.std.specs.Prelude.{not, ◌==◌, ◌&&◌, if◌then◌else◌}
use Rattle.std.specs.List.{position_or_len, before_first, after_first}
use Rattle.std.proofs.lemmas.List.{take_all}
use Rattle.page_batch.specs.Lists.{with_first, lines_of, has_empty}

abbrev is_lf : ℕ → Bool
is_lf b = b == 10

-- a character more in front
step : (c : ℕ) (cs : List ℕ) (n : ℕ) → lines_of cs ≡ take n cs ∷ lines_of (drop (n + 1) cs) → with_first c (lines_of cs) ≡ take (1 + n) (c ∷ cs) ∷ lines_of (drop (1 + n + 1) (c ∷ cs))
step c cs n rest =
    let one : 1 + n ≡ suc n = omega arith in
    let two : 1 + n + 1 ≡ suc (n + 1) = omega arith in
    ap (with_first c) rest
    ∙ (ap (λ k. take k (c ∷ cs) ∷ lines_of (drop (n + 1) cs)) (sym one) ∙ ap (λ k. take (1 + n) (c ∷ cs) ∷ lines_of (drop k (c ∷ cs))) (sym two))

by-first : (c : ℕ) (cs : List ℕ) (b : Bool) → (c == 10) ≡ b
    → with_first c (lines_of cs) ≡ take (1 + position_or_len is_lf cs) (c ∷ cs) ∷ lines_of (drop (1 + position_or_len is_lf cs + 1) (c ∷ cs))
    → lines_of (c ∷ cs) ≡ before_first is_lf (c ∷ cs) ∷ lines_of (after_first is_lf (c ∷ cs))
by-first c cs true is rest = rw is refl
by-first c cs false is rest = rw is rest

first-behind : (c : ℕ) (cs : List ℕ) → lines_of (c ∷ cs) ≡ before_first is_lf (c ∷ cs) ∷ lines_of (after_first is_lf (c ∷ cs))
first-behind c [] = by-first c [] (c == 10) refl refl
first-behind c (d ∷ ds) = by-first c (d ∷ ds) (c == 10) refl (step c (d ∷ ds) (position_or_len is_lf (d ∷ ds)) (first-behind d ds))

pub first-line : (s line behind : List ℕ) → 0 < length s → line ≡ before_first is_lf s → behind ≡ after_first is_lf s → lines_of s ≡ line ∷ lines_of behind
first-line [] line behind some front back = absurd (omega (arith, some))
first-line (c ∷ cs) line behind some front back =
    first-behind c cs ∙ (ap (λ l. l ∷ lines_of (after_first is_lf (c ∷ cs))) (sym front) ∙ ap (λ l. line ∷ lines_of l) (sym back))

pub behind-less : (s behind : List ℕ) → 0 < length s → behind ≡ after_first is_lf s → length behind < length s
behind-less s behind some back = let len = ap length back in let rest = length-drop (position_or_len is_lf s + 1) s in omega (arith, some, len, rest)

-- where there is no LF
pub all-before : (s : List ℕ) → position_or_len is_lf s ≡ length s → s ≡ before_first is_lf s
all-before s none = sym (take_all (position_or_len is_lf s) s (omega (arith, none)))

drop-none : (n : ℕ) (s : List ℕ) → length s ≤ n → drop n s ≡ []
drop-none zero [] le = refl
drop-none (suc n) [] le = refl
drop-none zero (c ∷ cs) le = absurd (omega (arith, le))
drop-none (suc n) (c ∷ cs) le = drop-none n cs (omega (arith, le))

pub none-after : (s : List ℕ) → position_or_len is_lf s ≡ length s → [] ≡ after_first is_lf s
none-after s none = sym (drop-none (position_or_len is_lf s + 1) s (omega (arith, none)))

-- ---- one line more

pub lines-more : (done : List (List ℕ)) (s line behind : List ℕ) (all : List (List ℕ)) → lines_of s ≡ line ∷ lines_of behind → done ++ lines_of s ≡ all → (done ++ line ∷ []) ++ lines_of behind ≡ all
lines-more done s line behind all cut so_far = append_assoc done (line ∷ []) (lines_of behind) ∙ (ap (λ ls. done ++ ls) (sym cut) ∙ so_far)

pub empty-none : (done : List (List ℕ)) (line : List ℕ) → has_empty done ≡ false → 0 < length line → has_empty (done ++ line ∷ []) ≡ false
empty-none [] [] none some = absurd (omega (arith, some))
empty-none [] (c ∷ cs) none some = refl
empty-none ([] ∷ done) line none some = absurd (true≢false none)
empty-none ((c ∷ cs) ∷ done) line none some = empty-none done line none some

pub empty-there : (done lines : List (List ℕ)) → has_empty (done ++ [] ∷ lines) ≡ true
empty-there [] lines = refl
empty-there ([] ∷ done) lines = refl
empty-there ((c ∷ cs) ∷ done) lines = empty-there done lines

pub nothing-left : (done : List (List ℕ)) (s : List ℕ) (all : List (List ℕ)) → length s ≡ 0 → done ++ lines_of s ≡ all → done ≡ all
nothing-left done [] all none so_far = sym (append-nil done) ∙ so_far
nothing-left done (c ∷ cs) all none so_far = absurd (omega (arith, none))

-- the first line is empty
pub empty-first : (done : List (List ℕ)) (s line : List ℕ) (all : List (List ℕ)) → 0 < length s → line ≡ before_first is_lf s → line ≡ [] → done ++ lines_of s ≡ all → has_empty all ≡ true
empty-first done s line all some front none so_far =
    sym (ap has_empty so_far)
    ∙ (ap (λ ls. has_empty (done ++ ls)) (first-line s [] (after_first is_lf s) some (sym none ∙ front) refl) ∙ empty-there done (lines_of (after_first is_lf s)))
