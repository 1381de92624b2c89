-- White space that is cut off the front of a text, as characters.
use Rattle.std.proofs.Common.{◌≡◌, ℕ, Bool, true, false, ◌&&◌, List, [], ◌∷◌, drop, Option, Some, None, refl, sym, ap, ◌∙◌, subst, arith, IfSome}
use Rattle.std.specs.Str.{chars, IsUtf8}
use Rattle.std.specs.Char.{char_set_contains}
use Rattle.std.specs.Str.Pattern.{HasPassingCharAt, FindsPrefixBy, CutsPrefixes, IsTrimStartMatches}
use Rattle.std.proofs.Math.Utf8.{scalar, scalars, encodes}
use Rattle.std.proofs.lemmas.Str.{chars_past_char, IsUtf8-past_char, encodes-chars, scalars-chars, len_utf8_bounds}
use Rattle.std.proofs.lemmas.Bool.Decides.{nat_tests}
use Rattle.serial.specs.Statements.{is_white, skip_white}

-- the four characters of white space
abbrev pub whites : List ℕ
whites = 32 ∷ 9 ∷ 10 ∷ 13 ∷ []

abbrev pub FindsWhite : List ℕ → Option ℕ → Type 0
FindsWhite s r = (k : ℕ → Bool) → ((c : ℕ) → char_set_contains whites c ≡ k c) → FindsPrefixBy k s r

white_is : (c : ℕ) → char_set_contains whites c ≡ is_white c
white_is c = grind (arith, nat_tests)

pub skipped : (c : ℕ) (cs : List ℕ) → is_white c ≡ true → skip_white (c ∷ cs) ≡ skip_white cs
skipped c cs e = ap (λ b. elim b as (λ _. List ℕ) [ true ↦ skip_white cs | false ↦ c ∷ cs ]) e

pub kept : (c : ℕ) (cs : List ℕ) → is_white c ≡ false → skip_white (c ∷ cs) ≡ c ∷ cs
kept c cs e = ap (λ b. elim b as (λ _. List ℕ) [ true ↦ skip_white cs | false ↦ c ∷ cs ]) e

-- one character that is cut off
one_cut : (s : List ℕ) (n : ℕ) → IsUtf8 s → HasPassingCharAt is_white s 0 n → (skip_white (chars s) ≡ skip_white (chars (drop n s))) × IsUtf8 (drop n s)
one_cut s n u (c, white, at) =
    (ap skip_white (chars_past_char s (drop n s) c u at.split) ∙ skipped c (chars (drop n s)) white, IsUtf8-past_char s (drop n s) c u at.split)

all_cut : (s : List ℕ) (ns : List ℕ) (r : List ℕ) → IsUtf8 s → CutsPrefixes FindsWhite s ns r → (skip_white (chars s) ≡ skip_white (chars r)) × IsUtf8 r
all_cut s [] r u e = (ap (λ t. skip_white (chars t)) (sym e), subst (λ t. IsUtf8 t) (sym e) u)
all_cut s (n ∷ ns) r u (m, cuts, found, e) =
    let before = all_cut s ns m u cuts in
    let one = one_cut m n before.1 (found is_white white_is) in
    (before.0 ∙ one.0 ∙ ap (λ t. skip_white (chars t)) (sym e), subst (λ t. IsUtf8 t) (sym e) one.1)

first_true : (a b : Bool) → (a && b) ≡ true → a ≡ true
first_true true b e = refl
first_true false b e = e

-- a text that begins with no white space
not_white : (cs s : List ℕ) → scalars cs ≡ true → encodes cs ≡ s → FindsPrefixBy is_white s None → skip_white cs ≡ cs
not_white [] s u e h = refl
not_white (c ∷ cs) s u e h = kept c cs (h c (encodes cs) (first_true (scalar c) (scalars cs) u) (sym e))

nothing_left : (r : List ℕ) (o : Option ℕ) → IsUtf8 r → FindsWhite r o → IfSome o (λ n. n ≡ 0) → skip_white (chars r) ≡ chars r
nothing_left r None u h e = not_white (chars r) r (scalars-chars r u) (encodes-chars r u) (h is_white white_is)
nothing_left r (Some n) u h e =
    let (c, white, at) = h is_white white_is in
    let long = len_utf8_bounds c in
    absurd (omega (arith, at.ends))

-- what is left of a text behind its white space
pub skip_white-trimmed : (s r : List ℕ) → IsUtf8 s → IsTrimStartMatches FindsWhite s r → chars r ≡ skip_white (chars s)
skip_white-trimmed s r u ((ns, cuts), (o, found, none)) =
    let all = all_cut s ns r u cuts in
    sym (nothing_left r o all.1 found none) ∙ sym all.0
