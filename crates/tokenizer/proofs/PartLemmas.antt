-- What parts go on over, by bytes and by characters.
use Rattle.std.proofs.Common.{◌≡◌, ℕ, ◌<◌, ◌≤◌, ◌==◌, ◌&&◌, ◌||◌, Bool, true, false, true≢false, List, [], ◌∷◌, refl, sym, ap, ◌∙◌, arith}
use Rattle.std.specs.Prelude.{not, nat_le, nat_lt, if◌then◌else◌}
use Rattle.std.specs.Char.{is_ascii_alphabetic}
use Rattle.std.specs.List.{list_any}
use Rattle.std.proofs.lemmas.Bool.{and_parts}
use Rattle.std.proofs.lemmas.Bool.Decides.{nat_tests}
use Rattle.html_types.specs.declared.class.Class.{Class}
use Rattle.html_types.specs.declared.class.Class.TheVariants.{Other}
use Rattle.html_types.specs.declared.token.Quote.TheVariants as quote
use Rattle.standard.specs.Class.{class_of, name_char, shown}
use Rattle.tokenizer.specs.declared.part.Part.{Part}
use Rattle.tokenizer.specs.declared.part.Part.TheVariants as part
use Rattle.tokenizer.specs.Whole.{is_of, ends, all_of, has_cr}
use Rattle.tokenizer.proofs.FirstLemmas.{AreAscii, or-first, or-second}

-- ---- characters beyond ASCII

skip : (t : Bool) (x y : Class) → t ≡ false → (if t then x else y) ≡ y
skip true x y h = absurd (true≢false h)
skip false x y h = refl

not_at : (c k : ℕ) → 128 ≤ c → k < 128 → (c == k) ≡ false
not_at c k h b = grind (arith, nat_tests, h, b)

none_of_four : (a b c d : Bool) → a ≡ false → b ≡ false → c ≡ false → d ≡ false → (a || b || c || d) ≡ false
none_of_four false false false false e f g h = refl
none_of_four _ _ _ _ e f g h = cc

no_digit : (c : ℕ) → 128 ≤ c → (nat_le 48 c && nat_le c 57) ≡ false
no_digit c h = grind (arith, nat_tests, h)

no_letter : (c : ℕ) → 128 ≤ c → is_ascii_alphabetic c ≡ false
no_letter c h = grind (arith, nat_tests, h)

class-beyond : (c : ℕ) → 128 ≤ c → class_of c ≡ Other
class-beyond c h =
    skip (c == 0) _ _ (not_at c 0 h (omega arith))
    ∙ skip (c == 9 || c == 10 || c == 12 || c == 32) _ _ (none_of_four (c == 9) (c == 10) (c == 12) (c == 32) (not_at c 9 h (omega arith)) (not_at c 10 h (omega arith)) (not_at c 12 h (omega arith)) (not_at c 32 h (omega arith)))
    ∙ skip (c == 33) _ _ (not_at c 33 h (omega arith))
    ∙ skip (c == 34) _ _ (not_at c 34 h (omega arith))
    ∙ skip (c == 35) _ _ (not_at c 35 h (omega arith))
    ∙ skip (c == 38) _ _ (not_at c 38 h (omega arith))
    ∙ skip (c == 39) _ _ (not_at c 39 h (omega arith))
    ∙ skip (c == 45) _ _ (not_at c 45 h (omega arith))
    ∙ skip (c == 47) _ _ (not_at c 47 h (omega arith))
    ∙ skip (nat_le 48 c && nat_le c 57) _ _ (no_digit c h)
    ∙ skip (c == 59) _ _ (not_at c 59 h (omega arith))
    ∙ skip (c == 60) _ _ (not_at c 60 h (omega arith))
    ∙ skip (c == 61) _ _ (not_at c 61 h (omega arith))
    ∙ skip (c == 62) _ _ (not_at c 62 h (omega arith))
    ∙ skip (c == 63) _ _ (not_at c 63 h (omega arith))
    ∙ skip (is_ascii_alphabetic c) _ _ (no_letter c h)
    ∙ skip (c == 91) _ _ (not_at c 91 h (omega arith))
    ∙ skip (c == 93) _ _ (not_at c 93 h (omega arith))

shown-beyond : (c : ℕ) → 128 ≤ c → (shown c == c) ≡ true
shown-beyond c h = grind (arith, nat_tests, h)

name-beyond : (c : ℕ) → 128 ≤ c → (name_char c == c) ≡ true
name-beyond c h = grind (arith, nat_tests, h)

-- a gap has none, and any other part goes on over all
abbrev pub IsNoGap : Part → Type 0
IsNoGap p = p ≡ part.Gap → ⊥

is_of-beyond : (p : Part) (c : ℕ) → IsNoGap p → 128 ≤ c → is_of p c ≡ true
is_of-beyond part.Gap c not_gap h = absurd (not_gap refl)
is_of-beyond part.TagName c not_gap h = rw (class-beyond c h, name-beyond c h) refl
is_of-beyond part.AttributeName c not_gap h = rw (class-beyond c h, name-beyond c h) refl
is_of-beyond (part.Quoted quote.Double) c not_gap h = rw (class-beyond c h, shown-beyond c h) refl
is_of-beyond (part.Quoted quote.Single) c not_gap h = rw (class-beyond c h, shown-beyond c h) refl
is_of-beyond part.Unquoted c not_gap h = rw (class-beyond c h, shown-beyond c h) refl
is_of-beyond part.Comment c not_gap h = rw (class-beyond c h, shown-beyond c h) refl
is_of-beyond part.BogusComment c not_gap h = rw (class-beyond c h, shown-beyond c h) refl
is_of-beyond part.DoctypeName c not_gap h = rw (class-beyond c h, name-beyond c h) refl
is_of-beyond (part.Identifier quote.Double) c not_gap h = rw (class-beyond c h) refl
is_of-beyond (part.Identifier quote.Single) c not_gap h = rw (class-beyond c h) refl
is_of-beyond part.BogusDoctype c not_gap h = rw (class-beyond c h) refl

-- ---- where a run ends

pub ends-ascii : (p : Part) → AreAscii (ends p)
ends-ascii p c h = let below : nat_lt c 128 ≡ true = (and_parts (nat_lt c 128) ((c == 13) || not (is_of p c)) h).0 in grind (arith, nat_tests, below)

is_true : (v : Bool) → not v ≡ false → v ≡ true
is_true true e = refl
is_true false e = sym e

-- by its side of the end of ASCII
goes_on : (p : Part) (c : ℕ) (below : Bool) → IsNoGap p → nat_lt c 128 ≡ below → (below && ((c == 13) || not (is_of p c))) ≡ false → is_of p c ≡ true
goes_on p c true not_gap at h = is_true (is_of p c) (or-second (c == 13) (not (is_of p c)) h)
goes_on p c false not_gap at h = let beyond : 128 ≤ c = grind (arith, nat_tests, at) in is_of-beyond p c not_gap beyond

no_cr : (p : Part) (c : ℕ) (below : Bool) → nat_lt c 128 ≡ below → (below && ((c == 13) || not (is_of p c))) ≡ false → (c == 13) ≡ false
no_cr p c true at h = or-first (c == 13) (not (is_of p c)) h
no_cr p c false at h = let beyond : 128 ≤ c = grind (arith, nat_tests, at) in not_at c 13 beyond (omega arith)

pub run-all : (p : Part) (cs : List ℕ) → IsNoGap p → list_any (ends p) cs ≡ false → all_of p cs ≡ true
run-all p [] not_gap h = refl
run-all p (c ∷ cs) not_gap h =
    let first : is_of p c ≡ true = goes_on p c (nat_lt c 128) not_gap refl (or-first (ends p c) (list_any (ends p) cs) h) in
    rw first (run-all p cs not_gap (or-second (ends p c) (list_any (ends p) cs) h))

pub run-no_cr : (p : Part) (cs : List ℕ) → list_any (ends p) cs ≡ false → has_cr cs ≡ false
run-no_cr p [] h = refl
run-no_cr p (c ∷ cs) h =
    let first : (c == 13) ≡ false = no_cr p c (nat_lt c 128) refl (or-first (ends p c) (list_any (ends p) cs) h) in
    rw first (run-no_cr p cs (or-second (ends p c) (list_any (ends p) cs) h))

-- ---- white space has no CR

gap-one : (c : ℕ) (at : Bool) → (c == 13) ≡ at → is_of part.Gap c ≡ true → at ≡ false
gap-one c false e h = refl
gap-one c true e h = let is : c ≡ 13 = grind (arith, nat_tests, e) in absurd (true≢false (sym h ∙ ap (is_of part.Gap) is))

pub gap-no_cr : (cs : List ℕ) → all_of part.Gap cs ≡ true → has_cr cs ≡ false
gap-no_cr [] h = refl
gap-no_cr (c ∷ cs) h =
    let p = and_parts (is_of part.Gap c) (all_of part.Gap cs) h in
    let first : (c == 13) ≡ false = gap-one c (c == 13) refl p.0 in
    rw first (gap-no_cr cs p.1)
