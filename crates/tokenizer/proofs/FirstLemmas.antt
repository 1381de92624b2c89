-- A text up to its first byte of a kind, all of which are ASCII.
use Rattle.std.proofs.Common.{◌≡◌, ℕ, ◌+◌, ◌-◌, ◌<◌, ◌||◌, Bool, true, false, cond, suc, List, [], ◌∷◌, take, drop, refl, sym, ap, ◌∙◌, arith, subst}
use Rattle.std.specs.List.{list_any, position_or_len}
use Rattle.std.specs.Prelude.{not}
use Rattle.std.specs.Str.{chars, IsUtf8, IsCharBoundary}
use Rattle.std.proofs.Math.Utf8.{encode, encodes}
use Rattle.std.proofs.lemmas.List.Folds.{list_any-append}
use Rattle.std.proofs.lemmas.List.Sums.{passes_at_first, prefix_len-le-length}
use Rattle.std.proofs.lemmas.Str.{encode_ascii, encodes-chars, IsUtf8-take, IsUtf8-drop, IsCharBoundary-before_ascii, IsCharBoundary-from_rest}
use Rattle.tokenizer.specs.Whole.{piece}

-- the bytes of the kind are ASCII
abbrev pub AreAscii : (ℕ → Bool) → Type 0
AreAscii q = (c : ℕ) → q c ≡ true → c < 128

-- the text may be cut at the first
pub boundary-first : (q : ℕ → Bool) (bs : List ℕ) → AreAscii q → IsCharBoundary bs (position_or_len q bs)
boundary-first q bs ascii =
    (prefix_len-le-length (λ x. not (q x)) bs, λ h. (IsCharBoundary-before_ascii bs (position_or_len q bs) h (ascii _ (passes_at_first q bs 0 h))).1 h)

one_more : (n : ℕ) → suc n ≡ 1 + n
one_more n = omega arith

none_before : (q : ℕ → Bool) (bs : List ℕ) → list_any q (take (position_or_len q bs) bs) ≡ false
none_before q [] = refl
none_before q (x ∷ xs) = by (q x) refl (none_before q xs)
  where
    by : (v : Bool) → q x ≡ v → list_any q (take (position_or_len q xs) xs) ≡ false → list_any q (take (position_or_len q (x ∷ xs)) (x ∷ xs)) ≡ false
    by true e h = subst (λ v. list_any q (take (cond (not v) (1 + position_or_len q xs) 0) (x ∷ xs)) ≡ false) (sym e) refl
    by false e h =
        subst (λ v. list_any q (take (cond (not v) (1 + position_or_len q xs) 0) (x ∷ xs)) ≡ false) (sym e)
        (subst (λ m. list_any q (take m (x ∷ xs)) ≡ false) (one_more (position_or_len q xs))
        (subst (λ v. (v || list_any q (take (position_or_len q xs) xs)) ≡ false) (sym e) h))

-- a character whose bytes aren't of the kind isn't either
not_one : (q : ℕ → Bool) (c : ℕ) → AreAscii q → list_any q (encode c) ≡ false → q c ≡ false
not_one q c ascii h = by (q c) refl
  where
    by : (v : Bool) → q c ≡ v → q c ≡ false
    by false e = e
    by true e =
        let is : list_any q (encode c) ≡ (true || false) = ap (list_any q) (encode_ascii c (ascii c e)) ∙ ap (λ v. v || false) e in
        absurd (cc)

pub or-first : (a b : Bool) → (a || b) ≡ false → a ≡ false
or-first false b e = refl
or-first true b e = e

pub or-second : (a b : Bool) → (a || b) ≡ false → b ≡ false
or-second false b e = e
or-second true b e = cc

none_encoded : (q : ℕ → Bool) (cs : List ℕ) → AreAscii q → list_any q (encodes cs) ≡ false → list_any q cs ≡ false
none_encoded q [] ascii h = refl
none_encoded q (c ∷ cs) ascii h =
    let both : (list_any q (encode c) || list_any q (encodes cs)) ≡ false = sym (list_any-append q (encode c) (encodes cs)) ∙ h in
    let first : q c ≡ false = not_one q c ascii (or-first _ _ both) in
    rw first (none_encoded q cs ascii (or-second _ _ both))

-- none of the characters before the first is of the kind
pub none-before_first : (q : ℕ → Bool) (bs : List ℕ) → AreAscii q → IsUtf8 bs → list_any q (chars (take (position_or_len q bs) bs)) ≡ false
none-before_first q bs ascii u =
    let front : List ℕ = take (position_or_len q bs) bs in
    let utf8 : IsUtf8 front = IsUtf8-take bs (position_or_len q bs) u (boundary-first q bs ascii) in
    none_encoded q (chars front) ascii (ap (list_any q) (encodes-chars front utf8) ∙ none_before q bs)

-- ---- from a place on

pub boundary-first_from : (q : ℕ → Bool) (text : List ℕ) (from : ℕ) → AreAscii q → IsCharBoundary text from → IsCharBoundary text (from + position_or_len q (drop from text))
boundary-first_from q text from ascii b = IsCharBoundary-from_rest text from (position_or_len q (drop from text)) b.0 (boundary-first q (drop from text) ascii)

pub none-before_first_from : (q : ℕ → Bool) (text : List ℕ) (from : ℕ) → AreAscii q → IsUtf8 text → IsCharBoundary text from
    → list_any q (piece text from (from + position_or_len q (drop from text))) ≡ false
none-before_first_from q text from ascii u b =
    let n : ℕ = position_or_len q (drop from text) in
    let long : from + n - from ≡ n = omega arith in
    ap (λ (m : ℕ). list_any q (chars (take m (drop from text)))) long ∙ none-before_first q (drop from text) ascii (IsUtf8-drop text from u b)
