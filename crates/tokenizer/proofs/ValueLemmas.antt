-- A character reference in an attribute's value that is read up to a character with which no name goes on.
use Rattle.std.proofs.Common.{◌≡◌, ℕ, Bool, true, false, true≢false, ◌&&◌, List, [], ◌∷◌, ◌++◌, length, drop, ◌==◌, refl, sym, ap, subst, ◌∙◌, append_assoc}
use Rattle.std.specs.Prelude.{not, if◌then◌else◌, Option, Some, None}
use Rattle.html_types.specs.declared.attributes.Attribute.{Attribute}
use Rattle.html_types.specs.declared.class.Class.{Class}
use Rattle.html_types.specs.declared.class.Class.TheVariants.{Alpha, Digit, Hash}
use Rattle.html_types.specs.declared.reference_state.ReferenceState.TheVariants as reference
use Rattle.html_types.specs.declared.reference_state.ReturnState.{ReturnState}
use Rattle.html_types.specs.declared.reference_state.ReturnState.TheVariants as back
use Rattle.html_types.specs.declared.token.Quote.{Quote}
use Rattle.html_types.specs.declared.token.PartialTag.{PartialTag}
use Rattle.standard.specs.Class.{class_of}
use Rattle.standard.specs.Entities.{Entity, Entities, begins_some, longest, ends_in_semicolon}
use Rattle.standard.specs.ReferenceStates.{return_state, is_in_attribute, literally, ampersand_row, goes_on, class_behind, named_step}
use Rattle.standard.specs.Step.{in_reference}
use Rattle.standard.specs.Tokenizer.{feed}
use Rattle.tokenizer.specs.Reference.{IsFirst, IsHeld, MeansBefore, as_read, is_kept, in_value, leaves_ampersand}
use Rattle.tokenizer.specs.Whole.{all_of, value_part, value_of, Reads}
use Rattle.tokenizer.proofs.ReferenceLemmas.{held, ampersand, stop_row, literally_done, literally_again, read-again, feed-after}
use Rattle.tokenizer.proofs.WholeLemmas.{value_run}

-- ---- the rows

either : (v : Bool) (b : ReturnState) (xs ys : List ℕ) → (if v then literally b xs true else literally b ys true) ≡ literally b (if v then xs else ys) true
either true b xs ys = refl
either false b xs ys = refl

value_step : (b : ReturnState) (cs : List ℕ) (found : Option Entity) (k : Class) → is_in_attribute b ≡ true → named_step b cs found k ≡ literally b (in_value cs found k) true
value_step b cs None k a = refl
value_step b cs (Some e) k a =
    let beyond = drop (length e.name) cs in
    ap (λ (v : Bool). if v && (not (ends_in_semicolon e.name) && goes_on (class_behind beyond k)) then literally b cs true else literally b (e.characters ++ beyond) true) a
    ∙ either (is_kept cs (Some e) k) b cs (e.characters ++ beyond)

lone_row : (b : ReturnState) (k : Class) (c : ℕ) → leaves_ampersand k ≡ true → ampersand_row b k c ≡ literally b (38 ∷ []) true
lone_row b Alpha c h = absurd (true≢false (sym h))
lone_row b Digit c h = absurd (true≢false (sym h))
lone_row b Hash c h = absurd (true≢false (sym h))
lone_row b _ c h = refl

-- ---- the character behind them

pub means_before : (es : Entities) (cs us : List ℕ) (c : ℕ) → IsHeld es cs → begins_some (cs ++ c ∷ []) es ≡ false → us ≡ in_value cs (longest cs es) (class_of c) → MeansBefore es c cs us
means_before es cs us c h stops is foreign b rest a =
    let s = literally b us true in
    h.name foreign b (c ∷ rest)
    ∙ feed-after es foreign (held b cs) s.state s.tokens c rest
    (read-again es foreign (held b cs) c s
    (stop_row es b cs (class_of c) c stops ∙ value_step b cs (longest cs es) (class_of c) a ∙ ap (λ (l : List ℕ). literally b l true) (sym is))
    (literally_again b us) (literally_done es foreign b us (class_of c) c))

pub lone_means : (es : Entities) (c : ℕ) → leaves_ampersand (class_of c) ≡ true → MeansBefore es c (38 ∷ []) (38 ∷ [])
lone_means es c h foreign b rest a =
    let s = literally b (38 ∷ []) true in
    ampersand es foreign b (c ∷ rest)
    ∙ feed-after es foreign (in_reference (reference.Ampersand b)) s.state s.tokens c rest
    (read-again es foreign (in_reference (reference.Ampersand b)) c s (lone_row b (class_of c) c h) (literally_again b (38 ∷ [])) (literally_done es foreign b (38 ∷ []) (class_of c) c))

pub MeansBefore-same : {xs ys us vs : List ℕ} (es : Entities) (c : ℕ) → xs ≡ ys → us ≡ vs → MeansBefore es c ys vs → MeansBefore es c xs us
MeansBefore-same {xs} {ys} {us} {vs} es c e f m = subst (λ (l : List ℕ). MeansBefore es c l us) (sym e) (subst (λ (l : List ℕ). MeansBefore es c ys l) (sym f) m)

pub read_as_is : (c : ℕ) → (c == 13) ≡ false → as_read c ≡ c
read_as_is c h = ap (λ (v : Bool). if v then 10 else c) h

-- ---- in a value

before_run : (es : Entities) (o : Option Quote) (cs us : List ℕ) (c : ℕ) → MeansBefore es c cs us → (foreign : Bool) (tag : PartialTag) (a : Attribute) (rest : List ℕ) →
    feed es foreign (return_state (value_of o tag a)) (cs ++ c ∷ rest) ≡ feed es foreign (return_state (value_of o tag (record a { value = a.value ++ us }))) (c ∷ rest)
before_run es (Some q) cs us c m foreign tag a rest = m foreign (back.AttributeValueQuoted tag (Some a) q) rest refl
before_run es None cs us c m foreign tag a rest = m foreign (back.AttributeValueUnquoted tag (Some a)) rest refl

-- they are read with what stands behind them
pub Reads-before : (es : Entities) (o : Option Quote) (cs us run : List ℕ) → ((c : ℕ) → IsFirst c run → MeansBefore es c cs us) → (begins : run ≡ [] → ⊥) → all_of (value_part o) run ≡ true → Reads es o (cs ++ run) (us ++ run)
Reads-before es o cs us [] m begins h foreign tag a c rest = absurd (begins refl)
Reads-before es o cs us (x ∷ xs) m begins h foreign tag a c rest =
    ap (feed es foreign (return_state (value_of o tag a))) (append_assoc cs (x ∷ xs) (c ∷ rest))
    ∙ before_run es o cs us x (m x (xs, refl)) foreign tag a (xs ++ c ∷ rest)
    ∙ value_run es foreign o (x ∷ xs) (c ∷ rest) tag (record a { value = a.value ++ us }) h
    ∙ ap (λ (v : List ℕ). feed es foreign (return_state (value_of o tag (record a { value = v }))) (c ∷ rest)) (append_assoc a.value us (x ∷ xs))
