-- Where a string ends, by bytes and by characters.
use Rattle.std.proofs.Common.{◌≡◌, ℕ, ◌+◌, ◌<◌, ◌≤◌, ◌==◌, Bool, true, false, List, [], ◌∷◌, ◌++◌, get_or, take, drop, length, Option, Some, None, option_map, refl, sym, ap, ◌∙◌, eq-eqb}
use Rattle.std.proofs.lemmas.List.{drop_more, drop_all, take_more, append_assoc}
use Rattle.serial.specs.Statements.{string_end, in_front}
use Rattle.script_lang.specs.Parts.{cut}

-- a text in two parts, with more in front
abbrev pub with_front : List ℕ → List ℕ × List ℕ → List ℕ × List ℕ
with_front front parts = (front ++ parts.0, parts.1)

-- the end that is looked for in the text from a place on, as parts of the whole
abbrev pub end_from : Bool → List ℕ → ℕ → Option (List ℕ × List ℕ)
end_from escaped t place = option_map (with_front (take place t)) (string_end escaped (drop place t))

pub grown : (front : List ℕ) (c : ℕ) (o : Option (List ℕ × List ℕ)) → option_map (with_front front) (option_map (in_front c) o) ≡ option_map (with_front (front ++ c ∷ [])) o
grown front c None = refl
grown front c (Some p) = ap (λ l. Some (l, p.1)) (sym (append_assoc front (c ∷ []) p.0))

-- one more byte: escaped, no quote, and a quote
pub end_from-escaped : (t : List ℕ) (place : ℕ) → place < length t → end_from true t place ≡ end_from false t (place + 1)
end_from-escaped t place h =
    ap (λ d. option_map (with_front (take place t)) (string_end true d)) (drop_more t place 0 h)
    ∙ grown (take place t) (get_or t place 0) (string_end false (drop (place + 1) t))
    ∙ ap (λ f. option_map (with_front f) (string_end false (drop (place + 1) t))) (sym (take_more t place 0 h))

pub no_quote : (c : ℕ) (cs : List ℕ) → (c == 34) ≡ false → string_end false (c ∷ cs) ≡ option_map (in_front c) (string_end (c == 92) cs)
no_quote c cs e = ap (λ b. elim b as (λ _. Option (List ℕ × List ℕ)) [ true ↦ Some (34 ∷ [], cs) | false ↦ option_map (in_front c) (string_end (c == 92) cs) ]) e

pub a_quote : (c : ℕ) (cs : List ℕ) → (c == 34) ≡ true → string_end false (c ∷ cs) ≡ Some (34 ∷ [], cs)
a_quote c cs e = ap (λ b. elim b as (λ _. Option (List ℕ × List ℕ)) [ true ↦ Some (34 ∷ [], cs) | false ↦ option_map (in_front c) (string_end (c == 92) cs) ]) e

pub end_from-other : (t : List ℕ) (place : ℕ) → place < length t → (get_or t place 0 == 34) ≡ false → end_from false t place ≡ end_from (get_or t place 0 == 92) t (place + 1)
end_from-other t place h e =
    let c = get_or t place 0 in
    ap (λ d. option_map (with_front (take place t)) (string_end false d)) (drop_more t place 0 h)
    ∙ ap (option_map (with_front (take place t))) (no_quote c (drop (place + 1) t) e)
    ∙ grown (take place t) c (string_end (c == 92) (drop (place + 1) t))
    ∙ ap (λ f. option_map (with_front f) (string_end (c == 92) (drop (place + 1) t))) (sym (take_more t place 0 h))

pub end_from-quote : (t : List ℕ) (place : ℕ) → place < length t → get_or t place 0 ≡ 34 → end_from false t place ≡ Some (cut t (place + 1))
end_from-quote t place h e =
    let c = get_or t place 0 in
    ap (λ d. option_map (with_front (take place t)) (string_end false d)) (drop_more t place 0 h)
    ∙ ap (option_map (with_front (take place t))) (a_quote c (drop (place + 1) t) (eq-eqb c 34 e))
    ∙ ap (λ x. Some (take place t ++ x ∷ [], drop (place + 1) t)) (sym e)
    ∙ ap (λ f. Some (f, drop (place + 1) t)) (sym (take_more t place 0 h))

-- the loop's turns
pub after_escaped : (t : List ℕ) (place : ℕ) (was now : Bool) (whole : Option (List ℕ × List ℕ)) → place < length t → was ≡ true → now ≡ false → end_from was t place ≡ whole → end_from now t (place + 1) ≡ whole
after_escaped t place was now whole h e f is =
    ap (λ b. end_from b t (place + 1)) f ∙ sym (end_from-escaped t place h) ∙ ap (λ b. end_from b t place) (sym e) ∙ is

pub after_other : (t : List ℕ) (place : ℕ) (was now : Bool) (whole : Option (List ℕ × List ℕ)) → place < length t → was ≡ false → (get_or t place 0 == 34) ≡ false → now ≡ (get_or t place 0 == 92) → end_from was t place ≡ whole → end_from now t (place + 1) ≡ whole
after_other t place was now whole h e n f is =
    ap (λ b. end_from b t (place + 1)) f ∙ sym (end_from-other t place h n) ∙ ap (λ b. end_from b t place) (sym e) ∙ is

pub at_end : (t : List ℕ) (place : ℕ) (was : Bool) (whole : Option (List ℕ × List ℕ)) → length t ≤ place → end_from was t place ≡ whole → None ≡ whole
at_end t place was whole h is = sym (ap (λ d. option_map (with_front (take place t)) (string_end was d)) (drop_all place t h)) ∙ is

pub at_quote : (t : List ℕ) (place : ℕ) (was : Bool) (whole : Option (List ℕ × List ℕ)) → place < length t → was ≡ false → get_or t place 0 ≡ 34 → end_from was t place ≡ whole → Some (cut t (place + 1)) ≡ whole
at_quote t place was whole h e q is = sym (end_from-quote t place h q) ∙ ap (λ b. end_from b t place) (sym e) ∙ is
