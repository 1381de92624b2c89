-- How the text and the ending of a page's bytes go on.
use Rattle.std.proofs.Common.{◌≡◌, ℕ, ◌<◌, ◌≤◌, ◌+◌, ◌-◌, List, [], ◌∷◌, ◌++◌, Bool, true, false, Option, Some, None, refl, sym, ap, subst, ◌∙◌, append_assoc, append-nil, ⊎_elim, arith, length, take, drop, take-append-drop, length-take, length-append}
use Rattle.std.specs.Prelude.{IsUtf8, encode_utf8, encode_utf8_all, is_none, if◌then◌else◌, cond, ◌==◌, nat_lt, slice_index}
use Rattle.std.specs.Str.{chars, IsValidUpTo}
use Rattle.std.specs.Str.Lossy.{utf8_valid_len, utf8_error_len, second_byte_min, second_byte_max}
use Rattle.std.proofs.Math.Seq.{take-append-add, drop-append-add, drop-length}
use Rattle.std.proofs.Math.ListN.{get_or-append}
use Rattle.std.proofs.lemmas.Bool.Decides.{leb_tells, nat_tests}
use Rattle.std.proofs.lemmas.List.{take_all, take-take, drop-take, take-append-le}
use Rattle.std.proofs.lemmas.Str.{IsUtf8-append, IsUtf8-nil, chars-nil, IsUtf8-drop, IsCharBoundary-from_take, chars-append, utf8_valid_len-IsUtf8, utf8_valid_len-IsValidUpTo}
use Rattle.std.specs.Int.{is_in_range}
use Rattle.bstr.specs.Utf8.{Decoded, decoded, decoded_by, good}
use Rattle.bstr.proofs.lemmas.PieceLemmas.{by-shape}
use Rattle.bstr.proofs.lemmas.EncodeLemmas.{decoded-encode}
use Rattle.bstr.proofs.lemmas.UnicodeLemmas.{none_after_valid}
use Rattle.bstr.proofs.lemmas.LossyLemmas.{utf8_valid_len-cases}
use Rattle.serial.specs.Page.{front, without_mark, text_of, is_text_so_far, shown}
use Rattle.html_types.specs.declared.ending.Ending.{Ending}
use Rattle.html_types.specs.declared.ending.Ending.TheVariants.{Bad, Long}
use Rattle.std.proofs.lemmas.Bool.{and_parts, ltb-true, lt-ltb}
use lib.Utf8.{scalars}

-- what lies between two fronts that are text is text
between_fronts : (bs : List ℕ) (from n : ℕ) → from ≤ length bs → IsUtf8 (take from bs) → IsUtf8 (take (from + n) bs) → IsUtf8 (take n (drop from bs))
between_fronts bs from n inside front whole =
    rw (← drop-take from n bs)
    (IsUtf8-drop _ from whole
    (IsCharBoundary-from_take _ from whole (omega (arith, length-take {A = ℕ}))
    (rw (take-take from (from + n) bs (omega arith)) front)))

take-past : (xs ys : List ℕ) (n : ℕ) → take (length xs + n) (xs ++ ys) ≡ xs ++ take n ys
take-past xs ys n = take-append-add xs ys n

drop-past : (xs ys : List ℕ) (n : ℕ) → drop (length xs + n) (xs ++ ys) ≡ drop n ys
drop-past xs ys n = drop-append-add xs ys n

-- text in front of bytes makes their longest front longer
pub valid_len-after : (xs ys : List ℕ) → IsUtf8 xs → utf8_valid_len (xs ++ ys) ≡ length xs + utf8_valid_len ys
valid_len-after xs ys text = ⊎_elim
    (λ (whole : IsUtf8 ys). utf8_valid_len-IsUtf8 _ (IsUtf8-append xs ys text whole) ∙ length-append xs ys ∙ ap (λ n. length xs + n) (sym (utf8_valid_len-IsUtf8 ys whole)))
    (λ (valid : IsValidUpTo ys (utf8_valid_len ys)).
    let n = utf8_valid_len ys in
    utf8_valid_len-IsValidUpTo (xs ++ ys) (length xs + n) (record {
      short = let short = valid.short in omega (arith, length-append xs ys);
      front = subst IsUtf8 (sym (take-past xs ys n)) (IsUtf8-append xs _ text valid.front);
      longest = λ m above u.
          let k = m - length xs in
          let is : m ≡ length xs + k = omega arith in
          valid.longest k (omega arith)
          (subst (λ l. IsUtf8 (take k l)) (drop-past xs ys 0 ∙ refl)
          (between_fronts (xs ++ ys) (length xs + 0) k (omega (arith, length-append xs ys)) (subst IsUtf8 (sym (take-past xs ys 0 ∙ append-nil xs)) text)
          (subst (λ j. IsUtf8 (take j (xs ++ ys))) (is ∙ omega arith) u)));
    }))
    (utf8_valid_len-cases ys)

pub front-after : (xs ys : List ℕ) → IsUtf8 xs → front (xs ++ ys) ≡ xs ++ front ys
front-after xs ys text = ap (λ n. take n (xs ++ ys)) (valid_len-after xs ys text) ∙ take-past xs ys (utf8_valid_len ys)

pub rest-after : (xs ys : List ℕ) → IsUtf8 xs → drop (utf8_valid_len (xs ++ ys)) (xs ++ ys) ≡ drop (utf8_valid_len ys) ys
rest-after xs ys text = ap (λ n. drop n (xs ++ ys)) (valid_len-after xs ys text) ∙ drop-past xs ys (utf8_valid_len ys)

pub so_far-after : (xs ys : List ℕ) → IsUtf8 xs → is_text_so_far (xs ++ ys) ≡ is_text_so_far ys
so_far-after xs ys text = ap (λ rest. is_none (utf8_error_len rest)) (rest-after xs ys text)

pub front-text : (bs : List ℕ) → IsUtf8 (front bs)
front-text bs = ⊎_elim
    (λ (whole : IsUtf8 bs). subst IsUtf8 (sym (take_all _ bs (omega (arith, utf8_valid_len-IsUtf8 bs whole)))) whole)
    (λ (valid : IsValidUpTo bs (utf8_valid_len bs)). valid.front)
    (utf8_valid_len-cases bs)

-- the front, and what is behind it
pub split : (bs : List ℕ) → front bs ++ drop (utf8_valid_len bs) bs ≡ bs
split bs = take-append-drop (utf8_valid_len bs) bs

mark-append : (xs ys : List ℕ) → (more : List ℕ) × (without_mark (xs ++ ys) ≡ without_mark xs ++ more)
mark-append [] ys = (without_mark ys, refl)
mark-append (c ∷ cs) ys = (ys, by_test (c == 0xFEFF))
  where
    by_test : (b : Bool) → (if b then cs ++ ys else c ∷ (cs ++ ys)) ≡ (if b then cs else c ∷ cs) ++ ys
    by_test true = refl
    by_test false = refl

-- the first bytes of more bytes
takes_more : (limit : ℕ) (bytes more : List ℕ) → (rest : List ℕ) × (take limit (bytes ++ more) ≡ take limit bytes ++ rest)
takes_more limit bytes more = ⊎_elim
    (λ (short : _). ([], take-append-le limit bytes more short.1 ∙ sym (append-nil (take limit bytes))))
    (λ (long : _).
    let is : limit ≡ length bytes + (limit - length bytes) = omega arith in (
      take (limit - length bytes) more,
      ap (λ n. take n (bytes ++ more)) is ∙ take-append-add bytes more (limit - length bytes)
          ∙ ap (λ l. l ++ take (limit - length bytes) more) (sym (take_all limit bytes (omega arith))),
    ))
    (leb_tells limit (length bytes))

-- more bytes, more text
pub text_of-extends : (limit : ℕ) (bytes more : List ℕ) → (text : List ℕ) × (text_of limit (bytes ++ more) ≡ text_of limit bytes ++ text)
text_of-extends limit bytes more =
    let first = take limit bytes in
    let on = takes_more limit bytes more in
    let behind = drop (utf8_valid_len first) first in
    let is : front (first ++ on.0) ≡ front first ++ front (behind ++ on.0) =
    ap front (ap (λ l. l ++ on.0) (sym (split first)) ∙ append_assoc (front first) behind on.0) ∙ front-after (front first) (behind ++ on.0) (front-text first) in
    let longer = mark-append (chars (front first)) (chars (front (behind ++ on.0))) in (
      longer.0,
      ap (λ l. without_mark (chars (front l))) on.1 ∙ ap (λ l. without_mark (chars l)) is
          ∙ ap without_mark (chars-append (front first) (front (behind ++ on.0)) (front-text first)) ∙ longer.1,
    )

-- ---- what can't be the beginning of a character can't be one with more bytes either

-- `utf8_error_len` over the number of bytes and the first three
abbrev pub error_by : ℕ → ℕ → ℕ → ℕ → Option ℕ
error_by n b c d = cond (n == 0) None (cond (is_in_range 0xC2 0xF4 b) (cond (nat_lt n 2) None
    (cond (is_in_range (second_byte_min b) (second_byte_max b) c) (cond (nat_lt n 3) None (cond (is_in_range 0x80 0xBF d) (cond (nat_lt n 4) None (Some 3)) (Some 2))) (Some 1))) (Some 1))

pub error_is : (bs : List ℕ) → utf8_error_len bs ≡ error_by (length bs) (slice_index bs 0) (slice_index bs 1) (slice_index bs 2)
unfolding utf8_error_len
error_is bs = refl

pub record Stays (n N b c d e c' d' e' : ℕ) : Type 0 where
  pub no_char : (decoded_by N b c' d' e').char ≡ None
  pub fault : is_none (error_by N b c' d') ≡ false

stays_by : (n N b c d e c' d' e' : ℕ) → 0 < n → n ≤ N → (1 < n → c' ≡ c) → (2 < n → d' ≡ d) → (3 < n → e' ≡ e) → (decoded_by n b c d e).char ≡ None → is_none (error_by n b c d) ≡ false
    → Stays n N b c d e c' d' e'
stays_by n N b c d e c' d' e' some le second_is third_is fourth_is none fault = by-shape n b c d e
    (λ h. absurd (omega arith))
    (λ h. let k = sym (ap (λ (p : Decoded). p.char) h.2) ∙ none in absurd (cc k))
    (λ h. record { no_char = grind (arith, nat_tests); fault = grind (arith, nat_tests) })
    (λ h. record { no_char = grind (arith, nat_tests); fault = grind (arith, nat_tests) })
    (λ h. absurd (grind (arith, nat_tests)))
    (λ h. let same = second_is (omega arith) in record { no_char = rw same (grind (arith, nat_tests)); fault = rw same (grind (arith, nat_tests)) })
    (λ h. let k = sym (ap (λ (p : Decoded). p.char) h.4) ∙ none in absurd (cc k))
    (λ h. absurd (grind (arith, nat_tests)))
    (λ h. let same = second_is (omega arith) in let third = third_is (omega arith) in record { no_char = rw (same, third) (grind (arith, nat_tests)); fault = rw (same, third) (grind (arith, nat_tests)) })
    (λ h. let k = sym (ap (λ (p : Decoded). p.char) h.5) ∙ none in absurd (cc k))
    (λ h. absurd (grind (arith, nat_tests)))
    (λ h. let same = second_is (omega arith) in let third = third_is (omega arith) in let fourth = fourth_is (omega arith) in record { no_char = rw (same, third, fourth) (grind (arith, nat_tests)); fault = rw (same, third) (grind (arith, nat_tests)) })
    (λ h. let k = sym (ap (λ (p : Decoded). p.char) h.6) ∙ none in absurd (cc k))

-- bytes that no character begins have no front that is text
not_first : (cs bs rest : List ℕ) → scalars cs ≡ true → bs ≡ encode_utf8_all cs ++ rest → (decoded bs).char ≡ None → cs ≡ []
not_first [] bs rest all is none = refl
not_first (c ∷ cs) bs rest all is none =
    let whole : bs ≡ encode_utf8 c ++ (encode_utf8_all cs ++ rest) = is ∙ append_assoc (encode_utf8 c) (encode_utf8_all cs) rest in
    let first = ap (λ (p : Decoded). p.char) (ap decoded whole ∙ decoded-encode c (encode_utf8_all cs ++ rest) (and_parts _ _ all).0) in
    absurd (cc (first, none))

no_front : (bs : List ℕ) → (decoded bs).char ≡ None → utf8_valid_len bs ≡ 0
no_front bs none = ⊎_elim
    (λ (whole : IsUtf8 bs).
    let no_chars = not_first whole.0 bs [] whole.1.0 (sym whole.1.1 ∙ sym (append-nil _)) none in
    utf8_valid_len-IsUtf8 bs whole ∙ ap length (sym whole.1.1 ∙ ap encode_utf8_all no_chars))
    (λ (valid : IsValidUpTo bs (utf8_valid_len bs)).
    let n = utf8_valid_len bs in
    let no_chars = not_first valid.front.0 bs (drop n bs) valid.front.1.0 (sym (take-append-drop n bs) ∙ ap (λ l. l ++ drop n bs) (sym valid.front.1.1)) none in
    let short = valid.short in
    let empty : length (take n bs) ≡ 0 = ap length (sym valid.front.1.1 ∙ ap encode_utf8_all no_chars) in
    omega (arith, length-take n bs))
    (utf8_valid_len-cases bs)

same_at : (xs more : List ℕ) (i n : ℕ) → n ≡ length xs → i < n → slice_index (xs ++ more) i ≡ slice_index xs i
same_at xs more i n is within = get_or-append xs more 0 i (omega arith)

fault_stays : (rest more : List ℕ) → (decoded rest).char ≡ None → is_none (utf8_error_len rest) ≡ false
    → (utf8_valid_len (rest ++ more) ≡ 0) × (is_none (utf8_error_len (rest ++ more)) ≡ false)
fault_stays [] more none fault = absurd (cc (fault, ap is_none (error_is [])))
fault_stays (b ∷ bs) more none fault =
    let rest : List ℕ = b ∷ bs in
    let n : ℕ = length rest in
    let stays = stays_by n (length (rest ++ more)) b (slice_index rest 1) (slice_index rest 2) (slice_index rest 3) (slice_index (rest ++ more) 1) (slice_index (rest ++ more) 2) (slice_index (rest ++ more) 3)
    (omega arith) (omega (arith, length-append rest more)) (same_at rest more 1 n refl) (same_at rest more 2 n refl) (same_at rest more 3 n refl) none (sym (ap is_none (error_is rest)) ∙ fault) in
    (no_front (rest ++ more) stays.no_char, ap is_none (error_is (rest ++ more)) ∙ stays.fault)

bs_rest_none : (bs : List ℕ) → is_text_so_far bs ≡ false → (decoded (drop (utf8_valid_len bs) bs)).char ≡ None
bs_rest_none bs bad = ⊎_elim
    (λ (whole : IsUtf8 bs).
    let none_left : drop (utf8_valid_len bs) bs ≡ [] = ap (λ n. drop n bs) (utf8_valid_len-IsUtf8 bs whole) ∙ drop-length bs in
    absurd (cc (bad, ap (λ l. is_none (utf8_error_len l)) none_left, ap is_none (error_is []))))
    (λ (valid : IsValidUpTo bs (utf8_valid_len bs)). none_after_valid bs (utf8_valid_len bs) valid)
    (utf8_valid_len-cases bs)

bad_stays : (bs more : List ℕ) → is_text_so_far bs ≡ false → (is_text_so_far (bs ++ more) ≡ false) × (front (bs ++ more) ≡ front bs)
bad_stays bs more bad =
    let rest = drop (utf8_valid_len bs) bs in
    let stays = fault_stays rest more (bs_rest_none bs bad) bad in
    let whole : bs ++ more ≡ front bs ++ (rest ++ more) = ap (λ l. l ++ more) (sym (split bs)) ∙ append_assoc (front bs) rest more in (
      ap is_text_so_far whole ∙ so_far-after (front bs) (rest ++ more) (front-text bs) ∙ ap (λ n. is_none (utf8_error_len (drop n (rest ++ more)))) stays.0 ∙ stays.1,
      ap front whole ∙ front-after (front bs) (rest ++ more) (front-text bs) ∙ ap (λ n. front bs ++ take n (rest ++ more)) stays.0 ∙ append-nil (front bs),
    )

text_stays : (limit : ℕ) (bytes more : List ℕ) → is_text_so_far (take (limit + 1) bytes) ≡ false → text_of limit (bytes ++ more) ≡ text_of limit bytes
text_stays limit bytes more bad = ⊎_elim
    (λ (long : _). ap (λ l. without_mark (chars (front l))) (take-append-le limit bytes more long.1))
    (λ (short : _).
    let on = takes_more limit bytes more in
    let all : take (limit + 1) bytes ≡ take limit bytes = take_all (limit + 1) bytes (omega arith) ∙ sym (take_all limit bytes (omega arith)) in
    ap (λ l. without_mark (chars (front l))) on.1 ∙ ap (λ l. without_mark (chars l)) (bad_stays (take limit bytes) on.0 (sym (ap is_text_so_far all) ∙ bad)).1)
    (leb_tells limit (length bytes))

-- an ending that is shown stays, and so does the text
pub shown-stays : (limit : ℕ) (bytes more : List ℕ) (ending : Ending) → shown limit bytes ≡ Some ending
    → (shown limit (bytes ++ more) ≡ Some ending) × (text_of limit (bytes ++ more) ≡ text_of limit bytes)
shown-stays limit bytes more ending is = by_test (is_text_so_far (take (limit + 1) bytes)) (nat_lt limit (length bytes)) refl refl is
  where
    by_test : (so_far long : Bool) → is_text_so_far (take (limit + 1) bytes) ≡ so_far → nat_lt limit (length bytes) ≡ long
        → (if so_far then (if long then Some Long else None) else Some Bad) ≡ Some ending
        → (shown limit (bytes ++ more) ≡ Some ending) × (text_of limit (bytes ++ more) ≡ text_of limit bytes)
    by_test false long bad is_long is =
        let on = takes_more (limit + 1) bytes more in
        let still = ap is_text_so_far on.1 ∙ (bad_stays (take (limit + 1) bytes) on.0 bad).0 in
        (rw still is, text_stays limit bytes more bad)
    by_test true true good is_long is =
        let past = ltb-true limit (length bytes) is_long in
        let same : take (limit + 1) (bytes ++ more) ≡ take (limit + 1) bytes = take-append-le (limit + 1) bytes more (omega arith) in
        let longer : nat_lt limit (length (bytes ++ more)) ≡ true = lt-ltb limit _ (omega (arith, length-append bytes more)) in
        (rw (same, good, longer) is, ap (λ l. without_mark (chars (front l))) (take-append-le limit bytes more (omega arith)))
    by_test true false good is_long is = absurd (cc is)

pub text_of-nil : (limit : ℕ) → text_of limit [] ≡ []
text_of-nil limit =
    ap (λ l. without_mark (chars (front l))) (take_all limit [] (omega arith)) ∙ ap (λ n. without_mark (chars (take n []))) (utf8_valid_len-IsUtf8 [] IsUtf8-nil) ∙ ap without_mark chars-nil
