-- The characters of a text up to its first stop are written as they are.
use Rattle.std.proofs.Common.{◌≡◌, ℕ, ◌+◌, ◌<◌, ◌≤◌, ◌==◌, ◌||◌, Bool, true, false, cond, suc, List, [], ◌∷◌, ◌++◌, length, take, drop, get_or, flat_map, refl, sym, ap, ◌∙◌, arith, subst}
use Rattle.std.specs.List.{list_any, position_or_len}
use Rattle.std.specs.Prelude.{not}
use Rattle.std.proofs.lemmas.List.Sums.{prefix_len_stops, prefix_len-le-length}
use Rattle.std.specs.Str.{chars, IsUtf8, IsCharBoundary}
use Rattle.std.proofs.Math.Utf8.{encode, encodes}
use Rattle.std.proofs.lemmas.Bool.{eqb-true}
use Rattle.std.proofs.lemmas.Bool.Decides.{nat_tests}
use Rattle.std.proofs.lemmas.List.Folds.{list_any-append}
use Rattle.std.proofs.Math.Seq.{take-add}
use Rattle.std.proofs.lemmas.List.{length-take-le}
use Rattle.std.proofs.lemmas.Str.{encodes-chars, chars-append, IsUtf8-take, IsUtf8-drop, IsCharBoundary-from_rest}
use Rattle.serialiser.specs.Plain.{escaped_for, is_stop, plain_len}

one_more : (n : ℕ) → suc n ≡ 1 + n
one_more n = omega arith

none_before : (p : ℕ → Bool) (xs : List ℕ) → list_any p (take (position_or_len p xs) xs) ≡ false
none_before p [] = refl
none_before p (x ∷ xs) = by (p x) refl (none_before p xs)
  where
    by : (v : Bool) → p x ≡ v → list_any p (take (position_or_len p xs) xs) ≡ false → list_any p (take (position_or_len p (x ∷ xs)) (x ∷ xs)) ≡ false
    by true e h = subst (λ v. list_any p (take (cond (not v) (1 + position_or_len p xs) 0) (x ∷ xs)) ≡ false) (sym e) refl
    by false e h =
        subst (λ v. list_any p (take (cond (not v) (1 + position_or_len p xs) 0) (x ∷ xs)) ≡ false) (sym e)
        (subst (λ m. list_any p (take m (x ∷ xs)) ≡ false) (one_more (position_or_len p xs))
        (subst (λ v. (v || list_any p (take (position_or_len p xs) xs)) ≡ false) (sym e) h))

passes : (v : Bool) → not v ≡ false → v ≡ true
passes true e = refl
passes false e = sym e

first_at : (p : ℕ → Bool) (xs : List ℕ) → position_or_len p xs < length xs → p (get_or xs (position_or_len p xs) 0) ≡ true
first_at p xs h = passes (p (get_or xs (position_or_len p xs) 0)) (prefix_len_stops (λ x. not (p x)) xs 0 h)

not_past : (p : ℕ → Bool) (xs : List ℕ) → position_or_len p xs ≤ length xs
not_past p xs = prefix_len-le-length (λ x. not (p x)) xs

-- a stop is ASCII or the first byte of a character
stop-first : (b : ℕ) → is_stop b ≡ true → 128 ≤ b → 192 ≤ b
stop-first b h high = grind (arith, nat_tests, h)

-- the text may be cut at its first stop
pub boundary-plain_len : (bs : List ℕ) → IsCharBoundary bs (plain_len bs)
boundary-plain_len bs = (not_past is_stop bs, λ h high. stop-first _ (first_at is_stop bs h) high)

-- a character whose bytes have no stop isn't one that has
not_it : (c k : ℕ) → list_any is_stop (encode k) ≡ true → list_any is_stop (encode c) ≡ false → (c == k) ≡ false
not_it c k stop none = by (c == k) refl
  where
    by : (v : Bool) → (c == k) ≡ v → (c == k) ≡ false
    by false e = e
    by true e =
        let same : c ≡ k = eqb-true c k e in
        let both : list_any is_stop (encode k) ≡ false = ap (λ x. list_any is_stop (encode x)) (sym same) ∙ none in
        absurd (cc)

quote-stops : list_any is_stop (encode 34) ≡ true
unfolding encode
quote-stops = refl

ampersand-stops : list_any is_stop (encode 38) ≡ true
unfolding encode
ampersand-stops = refl

less-stops : list_any is_stop (encode 60) ≡ true
unfolding encode
less-stops = refl

greater-stops : list_any is_stop (encode 62) ≡ true
unfolding encode
greater-stops = refl

space-stops : list_any is_stop (encode 160) ≡ true
unfolding encode
space-stops = refl

one_plain : (in_value : Bool) (c : ℕ) → list_any is_stop (encode c) ≡ false → escaped_for in_value c ≡ c ∷ []
one_plain true c h = rw (not_it c 34 quote-stops h, not_it c 38 ampersand-stops h, not_it c 160 space-stops h, not_it c 60 less-stops h, not_it c 62 greater-stops h) refl
one_plain false c h = rw (not_it c 38 ampersand-stops h, not_it c 160 space-stops h, not_it c 60 less-stops h, not_it c 62 greater-stops h) refl

or-first : (a b : Bool) → (a || b) ≡ false → a ≡ false
or-first false b e = refl
or-first true b e = e

or-second : (a b : Bool) → (a || b) ≡ false → b ≡ false
or-second false b e = e
or-second true b e = cc

all_plain : (in_value : Bool) (cs : List ℕ) → list_any is_stop (encodes cs) ≡ false → flat_map (escaped_for in_value) cs ≡ cs
all_plain in_value [] h = refl
all_plain in_value (c ∷ cs) h =
    let both : (list_any is_stop (encode c) || list_any is_stop (encodes cs)) ≡ false = sym (list_any-append is_stop (encode c) (encodes cs)) ∙ h in
    ap (λ l. l ++ flat_map (escaped_for in_value) cs) (one_plain in_value c (or-first _ _ both))
    ∙ ap (λ l. c ∷ l) (all_plain in_value cs (or-second _ _ both))

-- ---- the run from a place on

pub is_run : (rest bytes run : List ℕ) (n : ℕ) → bytes ≡ rest → n ≡ plain_len bytes → run ≡ take n rest → run ≡ take (plain_len rest) rest
is_run rest bytes run n same is e = e ∙ ap (λ m. take m rest) (is ∙ ap plain_len same)

module _ (text run : List ℕ) (from : ℕ) (boundary : IsCharBoundary text from) (is : run ≡ take (plain_len (drop from text)) (drop from text)) where
  run_length : length run ≡ plain_len (drop from text)
  run_length = ap length is ∙ length-take-le (plain_len (drop from text)) (drop from text) (not_past is_stop (drop from text))

  pub run-boundary : IsCharBoundary text (from + length run)
  run-boundary =
      subst (λ (n : ℕ). IsCharBoundary text (from + n)) (sym run_length)
      (IsCharBoundary-from_rest text from (plain_len (drop from text)) boundary.0 (boundary-plain_len (drop from text)))

  module _ (utf8 : IsUtf8 text) where
    run-utf8 : IsUtf8 run
    run-utf8 =
        subst IsUtf8 (sym is)
        (IsUtf8-take (drop from text) (plain_len (drop from text)) (IsUtf8-drop text from utf8 boundary) (boundary-plain_len (drop from text)))

    pub run-plain : (in_value : Bool) → flat_map (escaped_for in_value) (chars run) ≡ chars run
    run-plain in_value = all_plain in_value (chars run) (ap (list_any is_stop) (encodes-chars run run-utf8 ∙ is) ∙ none_before is_stop (drop from text))

    pub run-front : chars (take (from + length run) text) ≡ chars (take from text) ++ chars run
    run-front =
        let here : take (length run) (drop from text) ≡ run = ap (λ n. take n (drop from text)) run_length ∙ sym is in
        ap chars (take-add from (length run) text ∙ ap (λ l. take from text ++ l) here)
        ∙ chars-append (take from text) run (IsUtf8-take text from utf8 boundary)
