-- A string ends at the same place among the characters of a text as among its bytes.
use Rattle.std.proofs.Common.{◌≡◌, ℕ, suc, ◌<◌, ◌≤◌, ◌==◌, Bool, true, false, List, [], ◌∷◌, ◌++◌, get_or, length, Option, Some, None, option_map, inl, inr, refl, sym, ap, ◌∙◌, arith, lit<}
use Rattle.std.specs.Prelude.{encode_utf8}
use Rattle.std.specs.Str.{chars, IsUtf8}
use Rattle.std.proofs.Math.Utf8.{encodes}
use Rattle.std.proofs.lemmas.Bool.{cases_lt, ne_eqb, eqb-true}
use Rattle.std.proofs.lemmas.List.{append-nil}
use Rattle.std.proofs.lemmas.Str.{inside_one, encode_ascii, length-encode, len_utf8_bounds, encodes-chars}
use Rattle.serial.specs.Statements.{string_end, in_front}
use Rattle.script_lang.proofs.Ends.{with_front, no_quote, a_quote}

abbrev Parts : Type 0
Parts = List ℕ × List ℕ

abbrev AreHigh : List ℕ → Type 0
AreHigh bs = (k : ℕ) → k < length bs → 128 ≤ get_or bs k 0

no_front : (o : Option Parts) → o ≡ option_map (with_front []) o
no_front None = refl
no_front (Some p) = refl

one_front : (b : ℕ) (bs : List ℕ) (o : Option Parts) → option_map (in_front b) (option_map (with_front bs) o) ≡ option_map (with_front (b ∷ bs)) o
one_front b bs None = refl
one_front b bs (Some p) = refl

-- bytes from 128 on are no quote and no backslash
past_high : (bs rest : List ℕ) → AreHigh bs → string_end false (bs ++ rest) ≡ option_map (with_front bs) (string_end false rest)
past_high [] rest high = no_front (string_end false rest)
past_high (b ∷ bs) rest high =
    let first = high 0 (omega arith) in
    no_quote b (bs ++ rest) (ne_eqb b 34 (λ e. omega arith))
    ∙ ap (λ e. option_map (in_front b) (string_end e (bs ++ rest))) (ne_eqb b 92 (λ e. omega arith))
    ∙ ap (option_map (in_front b)) (past_high bs rest (λ k fits. high (suc k) (omega arith)))
    ∙ one_front b bs (string_end false rest)

escaped_high : (bs rest : List ℕ) → 0 < length bs → AreHigh bs → string_end true (bs ++ rest) ≡ option_map (with_front bs) (string_end false rest)
escaped_high [] rest some high = absurd (omega arith)
escaped_high (b ∷ bs) rest some high =
    ap (option_map (in_front b)) (past_high bs rest (λ k fits. high (suc k) (omega arith))) ∙ one_front b bs (string_end false rest)

high_bytes : (c : ℕ) → 128 ≤ c → AreHigh (encode_utf8 c)
high_bytes c high k fits =
    elim (cases_lt (get_or (encode_utf8 c) k 0) 128) [
      | inl low ↦ let same = inside_one c [] (encode_utf8 c) k (sym (append-nil (encode_utf8 c))) fits low in absurd (omega arith)
      | inr done ↦ done
    ]

-- one character, by its bytes
past_escaped : (c : ℕ) (rest : List ℕ) → string_end true (encode_utf8 c ++ rest) ≡ option_map (with_front (encode_utf8 c)) (string_end false rest)
past_escaped c rest =
    elim (cases_lt c 128) [
      | inl low ↦ ap (λ bs. string_end true (bs ++ rest)) (encode_ascii c low) ∙ ap (λ bs. option_map (with_front bs) (string_end false rest)) (sym (encode_ascii c low))
      | inr high ↦ let long = length-encode c in let some = len_utf8_bounds c in escaped_high (encode_utf8 c) rest (omega arith) (high_bytes c high)
    ]

past_other : (c : ℕ) (rest : List ℕ) → (c == 34) ≡ false → string_end false (encode_utf8 c ++ rest) ≡ option_map (with_front (encode_utf8 c)) (string_end (c == 92) rest)
past_other c rest other =
    elim (cases_lt c 128) [
      | inl low ↦ ap (λ bs. string_end false (bs ++ rest)) (encode_ascii c low) ∙ no_quote c rest other ∙ ap (λ bs. option_map (with_front bs) (string_end (c == 92) rest)) (sym (encode_ascii c low))
      | inr high ↦ past_high (encode_utf8 c) rest (high_bytes c high) ∙ ap (λ e. option_map (with_front (encode_utf8 c)) (string_end e rest)) (sym (ne_eqb c 92 (λ e. omega arith)))
    ]

-- the bytes of two parts
abbrev pub spelled : Parts → Parts
spelled parts = (encodes parts.0, encodes parts.1)

spelled_front : (c : ℕ) (o : Option Parts) → option_map (with_front (encode_utf8 c)) (option_map spelled o) ≡ option_map spelled (option_map (in_front c) o)
spelled_front c None = refl
spelled_front c (Some p) = refl

at_char : (quote : Bool) (c : ℕ) (cs : List ℕ) → (c == 34) ≡ quote → string_end (c == 92) (encodes cs) ≡ option_map spelled (string_end (c == 92) cs)
    → string_end false (encode_utf8 c ++ encodes cs) ≡ option_map spelled (string_end false (c ∷ cs))
at_char true c cs e next =
    let low : c < 128 = omega (arith, eqb-true c 34 e) in
    ap (λ bs. string_end false (bs ++ encodes cs)) (encode_ascii c low)
    ∙ a_quote c (encodes cs) e
    ∙ ap (λ bs. Some (bs ++ [], encodes cs)) (sym (encode_ascii 34 (lit< tt)))
    ∙ ap (option_map spelled) (sym (a_quote c cs e))
at_char false c cs e next =
    past_other c (encodes cs) e
    ∙ ap (option_map (with_front (encode_utf8 c))) next
    ∙ spelled_front c (string_end (c == 92) cs)
    ∙ ap (option_map spelled) (sym (no_quote c cs e))

pub string_end-encodes : (escaped : Bool) (cs : List ℕ) → string_end escaped (encodes cs) ≡ option_map spelled (string_end escaped cs)
string_end-encodes escaped [] = refl
string_end-encodes true (c ∷ cs) =
    past_escaped c (encodes cs) ∙ ap (option_map (with_front (encode_utf8 c))) (string_end-encodes false cs) ∙ spelled_front c (string_end false cs)
string_end-encodes false (c ∷ cs) = at_char (c == 34) c cs refl (string_end-encodes (c == 92) cs)

-- where the bytes end, the characters do
pub string_end-chars : (t : List ℕ) → IsUtf8 t → string_end false t ≡ option_map spelled (string_end false (chars t))
string_end-chars t u = ap (string_end false) (sym (encodes-chars t u)) ∙ string_end-encodes false (chars t)
