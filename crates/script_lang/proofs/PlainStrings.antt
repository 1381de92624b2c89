-- A string in which nothing is escaped.
use Rattle.std.proofs.Common.{◌≡◌, ℕ, zero, suc, ◌+◌, ◌<◌, ◌≤◌, ◌==◌, false, List, [], ◌∷◌, ◌++◌, get_or, take, length, Option, Some, None, option_map, refl, sym, ap, ◌∙◌, arith, add-one}
use Rattle.std.specs.Prelude.{nat_lt}
use Rattle.std.proofs.lemmas.Bool.Decides.{nat_tests}
use Rattle.std.proofs.lemmas.List.{take_more, length-take-le, get_or-take}
use Rattle.json.specs.Text.{content, plain, prepend}
use Rattle.serial.specs.Statements.{string_end}
use Rattle.script_lang.specs.Parts.{IsPlainTo, is_special}
use Rattle.script_lang.proofs.Ends.{with_front, end_from, end_from-other, end_from-quote}

not_quote : (b : ℕ) → is_special b ≡ false → (b == 34) ≡ false
not_quote b h = grind (arith, nat_tests, h)

not_backslash : (b : ℕ) → is_special b ≡ false → (b == 92) ≡ false
not_backslash b h = grind (arith, nat_tests, h)

not_control : (b : ℕ) → is_special b ≡ false → nat_lt b 32 ≡ false
not_control b h = grind (arith, nat_tests, h)

-- no byte before that place is special
abbrev pub NoneBefore : List ℕ → ℕ → Type 0
NoneBefore t place = (k : ℕ) → k < place → is_special (get_or t k 0) ≡ false

content-plain : (front : List ℕ) → NoneBefore front (length front) → content plain (front ++ 34 ∷ []) ≡ Some front
unfolding content
content-plain [] none = refl
content-plain (x ∷ xs) none =
    let here : is_special x ≡ false = none 0 (omega arith) in
    let rest : content plain (xs ++ 34 ∷ []) ≡ Some xs = content-plain xs (λ k fits. none (suc k) (omega arith)) in
    rw (not_quote x here, not_backslash x here, not_control x here) (ap (prepend (x ∷ [])) rest)

no_front : (o : Option (List ℕ × List ℕ)) → option_map (with_front []) o ≡ o
no_front None = refl
no_front (Some p) = refl

-- the end is looked for from there on
looked_to : (t : List ℕ) (place : ℕ) → place ≤ length t → NoneBefore t place → end_from false t place ≡ string_end false t
looked_to t zero fits none = no_front (string_end false t)
looked_to t (suc place) fits none =
    let here : is_special (get_or t place 0) ≡ false = none place (omega arith) in
    ap (end_from false t) (sym (add-one place))
    ∙ ap (λ escaped. end_from escaped t (place + 1)) (sym (not_backslash (get_or t place 0) here))
    ∙ sym (end_from-other t place (omega arith) (not_quote (get_or t place 0) here))
    ∙ looked_to t place (omega arith) (λ k below. none k (omega arith))

pub plain_to : (t : List ℕ) (place : ℕ) → place < length t → NoneBefore t place → get_or t place 0 ≡ 34 → IsPlainTo t place
plain_to t place fits none quote = record {
  ends = sym (end_from-quote t place fits quote) ∙ looked_to t place (omega arith) none;
  value =
      ap (content plain) (take_more t place 0 fits ∙ ap (λ c. take place t ++ c ∷ []) quote)
      ∙ content-plain (take place t) (λ k below. let short : length (take place t) ≡ place = length-take-le place t (omega arith) in let at : get_or (take place t) k 0 ≡ get_or t k 0 = get_or-take place t k 0 (omega arith) in ap is_special at ∙ none k (omega arith));
}
