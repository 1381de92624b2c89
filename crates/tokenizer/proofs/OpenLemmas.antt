-- A named character reference that is read up to a character with which no name goes on.
use Rattle.std.proofs.Common.{◌≡◌, ◌↔◌, ℕ, zero, suc, ◌+◌, ◌-◌, ◌≤◌, Bool, true, false, true≢false, ◌==◌, ◌||◌, List, [], ◌∷◌, ◌++◌, take, drop, refl, sym, ap, ◌∙◌, append_assoc, arith}
use Rattle.std.specs.Prelude.{IsTrue, if◌then◌else◌, Option, Some, None}
use Rattle.std.specs.Char.{is_ascii_alphanumeric}
use Rattle.std.specs.List.{list_any}
use Rattle.std.specs.Str.{chars, IsUtf8, IsCharBoundary}
use Rattle.std.proofs.Math.Seq.{take-add}
use Rattle.std.proofs.lemmas.Bool.{or_from, ne_eqb}
use Rattle.std.proofs.lemmas.List.{append_cancel_left, take-append-drop}
use Rattle.std.proofs.lemmas.List.Folds.{list_any-append}
use Rattle.std.proofs.lemmas.Str.{chars-append, IsUtf8-take}
use Rattle.html_types.specs.declared.reference_state.ReturnState.TheVariants as back
use Rattle.standard.specs.Class.{class_of}
use Rattle.standard.specs.Entities.{Entity, Entities, begins_some, longest}
use Rattle.standard.specs.ReferenceStates.{literally, named_step}
use Rattle.standard.specs.Tokenizer.{Reached, read}
use Rattle.html_types.specs.declared.class.Class.{Class}
use Rattle.entity_table.specs.declared.row.Match.{Match}
use Rattle.entity_table.specs.declared.cursor.Step.TheVariants.{More, Stop}
use Rattle.entity_table.proofs.Spelling.{in_spelling}
use Rattle.tokenizer.specs.Reference.{IsHeld, IsFirst, RefersBefore, RefersIn, as_read, has_nul, standing_for}
use Rattle.tokenizer.specs.Whole.{piece}
use Rattle.tokenizer.proofs.ReferenceLemmas.{held, stop_row, literally_done, read-again, begun, InName-more, name_state, not_letter, class-begins, class-in_name}

-- ---- what is held

pub held_begins : (es : Entities) (cs : List ℕ) (c : ℕ) → cs ≡ 38 ∷ c ∷ [] → is_ascii_alphanumeric c ≡ true → begins_some (38 ∷ c ∷ []) es ≡ true → IsHeld es cs
held_begins es cs c e letter some = rw e (record {
  name = begun es c (class-begins c letter) some;
  no_cr = or_from (c == 13) false (not_letter c 13 letter refl) refl;
  no_nul = or_from (c == 0) false (not_letter c 0 letter refl) refl;
})

spelled-not : (c n : ℕ) → in_spelling c ≡ true → in_spelling n ≡ false → (c == n) ≡ false
spelled-not c n h k = ne_eqb c n (λ e. true≢false (sym h ∙ ap in_spelling e ∙ k))

none-more : (n : ℕ) (cs now : List ℕ) (c : ℕ) → now ≡ cs ++ c ∷ [] → (c == n) ≡ false → list_any (λ x. x == n) cs ≡ false → list_any (λ x. x == n) now ≡ false
none-more n cs now c e other none =
    ap (list_any (λ x. x == n)) e ∙ list_any-append (λ x. x == n) cs (c ∷ [])
    ∙ or_from (list_any (λ x. x == n) cs) ((c == n) || false) none (or_from (c == n) false other refl)

pub held_more : (es : Entities) (cs now : List ℕ) (c : ℕ) → now ≡ cs ++ c ∷ [] → in_spelling c ≡ true → begins_some (cs ++ c ∷ []) es ≡ true → IsHeld es cs → IsHeld es now
held_more es cs now c e spelled some h = record {
  name = InName-more es cs now c e (class-in_name c spelled) some h.name;
  no_cr = none-more 13 cs now c e (spelled-not c 13 spelled refl) h.no_cr;
  no_nul = none-more 0 cs now c e (spelled-not c 0 spelled refl) h.no_nul;
}

-- a character with which names go on is read as it is
pub read_same : (c : ℕ) → in_spelling c ≡ true → as_read c ≡ c
read_same c spelled = ap (λ (v : Bool). if v then 10 else c) (spelled-not c 13 spelled refl)

pub has_nul-drop : (n : ℕ) (cs : List ℕ) → has_nul cs ≡ false → has_nul (drop n cs) ≡ false
has_nul-drop zero cs h = h
has_nul-drop (suc n) [] h = h
has_nul-drop (suc n) (c ∷ cs) h = has_nul-drop n cs (second (c == 0) (has_nul cs) h)
  where
    second : (a b : Bool) → (a || b) ≡ false → b ≡ false
    second false b e = e
    second true b e = cc

-- ---- the character behind it

-- in the data state nothing is kept for what goes on
open_step : (cs : List ℕ) (found : Option Entity) (k : Class) → named_step back.Data cs found k ≡ literally back.Data (standing_for cs found) true
open_step cs None k = refl
open_step cs (Some e) k = refl

pub refers_before : (es : Entities) (cs us : List ℕ) (c : ℕ) → IsHeld es cs → begins_some (cs ++ c ∷ []) es ≡ false → us ≡ standing_for cs (longest cs es) → RefersBefore es c cs us
refers_before es cs us c h stops is = record {
  silent = λ foreign. ap (λ (m : Reached). m.tokens) (name_state es foreign cs h.name);
  behind = λ foreign.
      ap (λ (m : Reached). read es foreign m.state c) (name_state es foreign cs h.name)
      ∙ read-again es foreign (held back.Data cs) c (literally back.Data us true)
      (stop_row es back.Data cs (class_of c) c stops ∙ open_step cs (longest cs es) (class_of c) ∙ ap (λ (l : List ℕ). literally back.Data l true) (sym is))
      refl (literally_done es foreign back.Data us (class_of c) c);
}

-- ---- the characters at places of a text

halves : (text : List ℕ) (at : ℕ) → IsUtf8 text → IsCharBoundary text at → chars text ≡ chars (take at text) ++ chars (drop at text)
halves text at u b = ap chars (sym (take-append-drop at text)) ∙ chars-append (take at text) (drop at text) (IsUtf8-take text at u b)

-- what stands behind a place
pub chars_behind : (text run : List ℕ) (from to : ℕ) → IsUtf8 text → IsCharBoundary text from → IsCharBoundary text to → chars (take to text) ≡ chars (take from text) ++ run → chars (drop from text) ≡ run ++ chars (drop to text)
chars_behind text run from to u b k e =
    append_cancel_left (chars (take from text)) (chars (drop from text)) (run ++ chars (drop to text))
    (sym (halves text from u b) ∙ halves text to u k ∙ ap (λ (l : List ℕ). l ++ chars (drop to text)) e ∙ append_assoc (chars (take from text)) run (chars (drop to text)))

first_same : (c d : ℕ) (xs ys : List ℕ) → c ∷ xs ≡ d ∷ ys → c ≡ d
first_same c d xs ys e = cc

pub first_is : (text : List ℕ) (at behind c d : ℕ) → IsUtf8 text → IsCharBoundary text at → IsCharBoundary text behind → chars (take behind text) ≡ chars (take at text) ++ c ∷ [] → IsFirst d (chars (drop at text)) → c ≡ d
first_is text at behind c d u b k e first = first_same c d (chars (drop behind text)) first.0 (sym (chars_behind text (c ∷ []) at behind u b k e) ∙ first.1)

front : (text : List ℕ) (from end : ℕ) → IsUtf8 text → IsCharBoundary text from → from ≤ end → chars (take end text) ≡ chars (take from text) ++ piece text from end
front text from end u b h =
    let whole : end ≡ from + (end - from) = omega arith in
    ap (λ (n : ℕ). chars (take n text)) whole ∙ ap chars (take-add from (end - from) text) ∙ chars-append (take from text) (take (end - from) (drop from text)) (IsUtf8-take text from u b)

-- a piece with the character behind it
pub piece-read : (text : List ℕ) (from at behind c : ℕ) → IsUtf8 text → IsCharBoundary text from → from ≤ at → at ≤ behind → chars (take behind text) ≡ chars (take at text) ++ c ∷ [] → piece text from behind ≡ piece text from at ++ c ∷ []
piece-read text from at behind c u b h k e =
    append_cancel_left (chars (take from text)) (piece text from behind) (piece text from at ++ c ∷ [])
    (sym (front text from behind u b (omega (arith, h, k))) ∙ e ∙ ap (λ (l : List ℕ). l ++ c ∷ []) (front text from at u b h) ∙ append_assoc (chars (take from text)) (piece text from at) (c ∷ []))

-- what a piece begins with stands behind its place
pub first_behind : (text : List ℕ) (from to c : ℕ) → IsUtf8 text → IsCharBoundary text from → IsCharBoundary text to → from ≤ to → IsFirst c (piece text from to) → IsFirst c (chars (drop from text))
first_behind text from to c u b k h first =
    (first.0 ++ chars (drop to text), chars_behind text (piece text from to) from to u b k (front text from to u b h) ∙ ap (λ (l : List ℕ). l ++ chars (drop to text)) first.1)

-- ---- the whole

pub refers_in : (es : Entities) (text us : List ℕ) (from at c : ℕ) → IsHeld es (piece text from at) → begins_some (piece text from at ++ as_read c ∷ []) es ≡ false → us ≡ standing_for (piece text from at) (longest (piece text from at) es)
    → ((d : ℕ) → IsFirst d (chars (drop at text)) → c ≡ d) → RefersIn es text from at us
refers_in es text us from at c h stops is next d first =
    refers_before es (piece text from at) us (as_read d) h (ap (λ (n : ℕ). begins_some (piece text from at ++ as_read n ∷ []) es) (sym (next d first)) ∙ stops) is

pub stopped : (some : Bool) (best : Option Match) → (Stop best ≡ More) ↔ IsTrue some → some ≡ false
stopped false best h = refl
stopped true best h = let e : Stop best ≡ More = h.1 refl in cc
