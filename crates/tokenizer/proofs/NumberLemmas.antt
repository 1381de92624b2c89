-- A numeric character reference that stands whole in a text, read character by character.
use Rattle.std.proofs.Common.{◌≡◌, ℕ, Bool, true, false, true≢false, List, [], ◌∷◌, ◌++◌, refl, sym, ap, ◌∙◌, append-nil, append_assoc}
use Rattle.std.specs.Char.{is_digit}
use Rattle.html_types.specs.declared.class.Class.{Class}
use Rattle.html_types.specs.declared.class.Class.TheVariants.{Digit, Alpha}
use Rattle.html_types.specs.declared.reference_state.ReferenceState.TheVariants as reference
use Rattle.html_types.specs.declared.reference_state.ReturnState.{ReturnState}
use Rattle.html_types.specs.declared.reference_state.ReturnState.TheVariants as back
use Rattle.html_types.specs.declared.token.Token.TheVariants.{Character}
use Rattle.standard.specs.Class.{class_of}
use Rattle.standard.specs.Entities.{Entities}
use Rattle.standard.specs.ReferenceStates.{return_state, literally, longer_code, character_of, numeric_row, hexadecimal_start_row}
use Rattle.standard.specs.Step.{Step, data_state, in_reference, to, again}
use Rattle.standard.specs.Tokenizer.{Reached, after_tokens, row, feed, settle}
use Rattle.tokenizer.specs.Reference.{radix, in_number, IsDigit, digits, OpensNumber, Counts, Means}
use Rattle.tokenizer.specs.Whole.{MakesAlone}
use Rattle.tokenizer.proofs.WholeLemmas.{feed-to, feed-again}
use Rattle.tokenizer.proofs.ReferenceLemmas.{ampersand}

-- ---- digits

digit_row : (es : Entities) (foreign : Bool) (hexadecimal : Bool) (back : ReturnState) (code : ℕ) (k : Class) (c : ℕ) → in_number hexadecimal k ≡ true → is_digit c (radix hexadecimal) ≡ true
    → row es foreign (digits hexadecimal back code) k c ≡ to (digits hexadecimal back (longer_code (radix hexadecimal) code c))
digit_row es foreign false back code Digit c h d = rw d refl
digit_row es foreign true back code Digit c h d = rw d refl
digit_row es foreign true back code Alpha c h d = rw d refl
digit_row es foreign false back code _ c h d = absurd (true≢false (sym h))
digit_row es foreign true back code _ c h d = absurd (true≢false (sym h))

decimal_begins : (back : ReturnState) (k : Class) (c : ℕ) → in_number false k ≡ true → numeric_row back k c ≡ again (digits false back 0)
decimal_begins back Digit c h = refl
decimal_begins back _ c h = absurd (true≢false (sym h))

hexadecimal_begins : (back : ReturnState) (x : ℕ) (k : Class) (c : ℕ) → in_number true k ≡ true → is_digit c 16 ≡ true → hexadecimal_start_row back x k c ≡ again (digits true back 0)
hexadecimal_begins back x Digit c h d = rw d refl
hexadecimal_begins back x Alpha c h d = rw d refl
hexadecimal_begins back x _ c h d = absurd (true≢false (sym h))

hash : (es : Entities) (foreign : Bool) (back : ReturnState) (rest : List ℕ) → feed es foreign (return_state back) (38 ∷ 35 ∷ rest) ≡ feed es foreign (in_reference (reference.Numeric back)) rest
hash es foreign back rest = ampersand es foreign back (35 ∷ rest) ∙ feed-to es foreign (in_reference (reference.Ampersand back)) (in_reference (reference.Numeric back)) 35 rest refl

pub opens-decimal : OpensNumber false (38 ∷ 35 ∷ [])
opens-decimal es foreign back c rest d =
    hash es foreign back (c ∷ rest)
    ∙ feed-again es foreign (in_reference (reference.Numeric back)) (digits false back 0) c rest (decimal_begins back (class_of c) c d.class)
    (ap (λ (r : Step). r.again) (digit_row es foreign false back 0 (class_of c) c d.class d.digit))

pub opens-hexadecimal : OpensNumber true (38 ∷ 35 ∷ 120 ∷ [])
opens-hexadecimal es foreign back c rest d =
    let start = in_reference (reference.HexadecimalStart back 120) in
    hash es foreign back (120 ∷ c ∷ rest)
    ∙ feed-to es foreign (in_reference (reference.Numeric back)) start 120 (c ∷ rest) refl
    ∙ feed-again es foreign start (digits true back 0) c rest (hexadecimal_begins back 120 (class_of c) c d.class d.digit)
    (ap (λ (r : Step). r.again) (digit_row es foreign true back 0 (class_of c) c d.class d.digit))

pub OpensNumber-same : {xs ys : List ℕ} (hexadecimal : Bool) → xs ≡ ys → OpensNumber hexadecimal ys → OpensNumber hexadecimal xs
OpensNumber-same hexadecimal e o es foreign back c rest d = ap (λ (l : List ℕ). feed es foreign (return_state back) (l ++ c ∷ rest)) e ∙ o es foreign back c rest d

one_more : (es : Entities) (foreign : Bool) (hexadecimal : Bool) (back : ReturnState) (code longer c : ℕ) (rest : List ℕ) → IsDigit hexadecimal c → longer ≡ longer_code (radix hexadecimal) code c
    → feed es foreign (digits hexadecimal back code) (c ∷ rest) ≡ feed es foreign (digits hexadecimal back longer) rest
one_more es foreign hexadecimal back code longer c rest d e =
    feed-to es foreign (digits hexadecimal back code) (digits hexadecimal back longer) c rest
    (digit_row es foreign hexadecimal back code (class_of c) c d.class d.digit ∙ ap (λ (n : ℕ). to (digits hexadecimal back n)) (sym e))

pub Counts-first : (hexadecimal : Bool) (cs now : List ℕ) (c code : ℕ) → now ≡ cs ++ c ∷ [] → OpensNumber hexadecimal cs → IsDigit hexadecimal c → code ≡ longer_code (radix hexadecimal) 0 c → Counts hexadecimal now code
Counts-first hexadecimal cs now c code e o d is es foreign back rest =
    ap (λ (l : List ℕ). feed es foreign (return_state back) (l ++ rest)) e
    ∙ ap (feed es foreign (return_state back)) (append_assoc cs (c ∷ []) rest)
    ∙ o es foreign back c rest d
    ∙ one_more es foreign hexadecimal back 0 code c rest d is

pub Counts-more : (hexadecimal : Bool) (cs now : List ℕ) (c code longer : ℕ) → now ≡ cs ++ c ∷ [] → Counts hexadecimal cs code → IsDigit hexadecimal c → longer ≡ longer_code (radix hexadecimal) code c → Counts hexadecimal now longer
Counts-more hexadecimal cs now c code longer e n d is es foreign back rest =
    ap (λ (l : List ℕ). feed es foreign (return_state back) (l ++ rest)) e
    ∙ ap (feed es foreign (return_state back)) (append_assoc cs (c ∷ []) rest)
    ∙ n es foreign back (c ∷ rest)
    ∙ one_more es foreign hexadecimal back code longer c rest d is

-- ---- the `;` behind them

semicolon : (es : Entities) (foreign : Bool) (hexadecimal : Bool) (back : ReturnState) (code : ℕ) (rest : List ℕ)
    → feed es foreign (digits hexadecimal back code) (59 ∷ rest) ≡ after_tokens (literally back (character_of code ∷ []) true).tokens (feed es foreign (literally back (character_of code ∷ []) true).state rest)
unfolding feed settle
semicolon es foreign false back.Data code rest = refl
semicolon es foreign false (back.Rcdata last) code rest = refl
semicolon es foreign false (back.AttributeValueQuoted tag value q) code rest = refl
semicolon es foreign false (back.AttributeValueUnquoted tag value) code rest = refl
semicolon es foreign true back.Data code rest = refl
semicolon es foreign true (back.Rcdata last) code rest = refl
semicolon es foreign true (back.AttributeValueQuoted tag value q) code rest = refl
semicolon es foreign true (back.AttributeValueUnquoted tag value) code rest = refl

ended : (es : Entities) (foreign : Bool) (hexadecimal : Bool) (back : ReturnState) (cs now : List ℕ) (code : ℕ) (rest : List ℕ) → now ≡ cs ++ 59 ∷ [] → Counts hexadecimal cs code
    → feed es foreign (return_state back) (now ++ rest) ≡ after_tokens (literally back (character_of code ∷ []) true).tokens (feed es foreign (literally back (character_of code ∷ []) true).state rest)
ended es foreign hexadecimal back cs now code rest e n =
    ap (λ (l : List ℕ). feed es foreign (return_state back) (l ++ rest)) e
    ∙ ap (feed es foreign (return_state back)) (append_assoc cs (59 ∷ []) rest)
    ∙ n es foreign back (59 ∷ rest)
    ∙ semicolon es foreign hexadecimal back code rest

pub number_means : (hexadecimal : Bool) (cs now : List ℕ) (code character : ℕ) → now ≡ cs ++ 59 ∷ [] → Counts hexadecimal cs code → character ≡ character_of code → (es : Entities) → Means es now (character ∷ [])
number_means hexadecimal cs now code character e n is es foreign back c rest =
    ended es foreign hexadecimal back cs now code (c ∷ rest) e n
    ∙ ap (λ (x : ℕ). after_tokens (literally back (x ∷ []) true).tokens (feed es foreign (literally back (x ∷ []) true).state (c ∷ rest))) (sym is)

pub number_alone : (hexadecimal : Bool) (cs now : List ℕ) (code character : ℕ) → now ≡ cs ++ 59 ∷ [] → Counts hexadecimal cs code → character ≡ character_of code → (es : Entities) → MakesAlone es now (Character character)
unfolding feed
number_alone hexadecimal cs now code character e n is es = record {
  front = cs;
  last = 59;
  split = e;
  silent = λ foreign. ap (λ (l : List ℕ). (feed es foreign data_state l).tokens) (sym (append-nil cs)) ∙ ap (λ (m : Reached). m.tokens) (n es foreign back.Data []);
  whole = λ foreign.
      ap (feed es foreign data_state) (sym (append-nil now))
      ∙ ended es foreign hexadecimal back.Data cs now code [] e n
      ∙ ap (λ (x : ℕ). record { tokens = Character x ∷ []; state = data_state }) (sym is);
}
