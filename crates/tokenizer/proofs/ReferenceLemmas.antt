-- A named character reference that stands whole in a text, read character by character.
use Rattle.std.proofs.Common.{◌≡◌, ℕ, ◌-◌, Bool, true, false, true≢false, ◌&&◌, ◌||◌, ◌==◌, List, [], ◌∷◌, ◌++◌, length, drop, bytes_eq, cond, refl, sym, ap, ◌∙◌, append-nil, append_assoc, arith}
use Rattle.std.specs.Prelude.{not, nat_le, slice_index, if◌then◌else◌, Option, Some}
use Rattle.std.specs.Char.{is_ascii_alphabetic, is_ascii_alphanumeric}
use Rattle.std.specs.Int.{is_in_range}
use Rattle.std.specs.List.{list_all}
use Rattle.std.proofs.lemmas.Bool.{and_parts, and_from, or_from, or_left, or_right, eq-eqb, ne_eqb}
use Rattle.std.proofs.lemmas.Bool.Decides.{Decides-eqb}
use Rattle.std.proofs.lemmas.Slice.Eq.{bytes_eq-Decides}
use Rattle.std.proofs.Math.Seq.{drop-length}
use Rattle.html_types.specs.declared.class.Class.{Class}
use Rattle.html_types.specs.declared.class.Class.TheVariants.{Ampersand, Semicolon, Alpha, Digit, InputEnd}
use Rattle.html_types.specs.declared.reference_state.ReferenceState.TheVariants as reference
use Rattle.html_types.specs.declared.reference_state.ReturnState.{ReturnState}
use Rattle.html_types.specs.declared.reference_state.ReturnState.TheVariants as back
use Rattle.html_types.specs.declared.token.Token.{Token}
use Rattle.html_types.specs.declared.token.Quote.TheVariants as quote
use Rattle.html_types.specs.declared.state.TokState.{TokState}
use Rattle.standard.specs.Class.{class_of}
use Rattle.standard.specs.Entities.{Entity, Entities, is_front, begins_some, longest, ends_in_semicolon, is_name}
use Rattle.standard.specs.ReferenceStates.{return_state, is_in_attribute, literally, ampersand_row, goes_on, class_behind, is_kept, named_row, named_step}
use Rattle.standard.specs.Step.{Step, data_state, in_reference, to, again}
use Rattle.standard.specs.Tokenizer.{Reached, after_tokens, row, settle, readings, read, feed}
use Rattle.tokenizer_laws.proofs.SettleLemmas.{settle-again, settle-done}
use Rattle.entity_table.specs.Matches.{IsMatch, Tells}
use Rattle.entity_table.specs.Order.{entity_named}
use Rattle.entity_table.specs.View.{characters_in}
use Rattle.entity_table.specs.declared.row.Match.{Match}
use Rattle.entity_table.proofs.Spelling.{in_spelling, spelling}
use Rattle.tokenizer.specs.Reference.{begins, in_name, InName, Refers, Means}
use Rattle.tokenizer.specs.Whole.{has_cr}
use Rattle.tokenizer.proofs.WholeLemmas.{feed-to, feed-again}

abbrev pub held : ReturnState → List ℕ → TokState
held back cs = in_reference (reference.Named back cs)

-- ---- a name that goes on

on_row : (es : Entities) (back : ReturnState) (cs : List ℕ) (k : Class) (c : ℕ) → in_name k ≡ true → begins_some (cs ++ c ∷ []) es ≡ true → named_row es back cs k c ≡ to (held back (cs ++ c ∷ []))
on_row es back cs Alpha c h e = rw e refl
on_row es back cs Digit c h e = rw e refl
on_row es back cs Semicolon c h e = rw e refl
on_row es back cs _ c h e = absurd (true≢false (sym h))

begins_in_name : (k : Class) → begins k ≡ true → in_name k ≡ true
begins_in_name Alpha h = refl
begins_in_name Digit h = refl
begins_in_name _ h = absurd (true≢false (sym h))

begins_row : (back : ReturnState) (k : Class) (c : ℕ) → begins k ≡ true → ampersand_row back k c ≡ again (held back (38 ∷ []))
begins_row back Alpha c h = refl
begins_row back Digit c h = refl
begins_row back _ c h = absurd (true≢false (sym h))

-- `&` where references return to
pub ampersand : (es : Entities) (foreign : Bool) (back : ReturnState) (rest : List ℕ) → feed es foreign (return_state back) (38 ∷ rest) ≡ feed es foreign (in_reference (reference.Ampersand back)) rest
ampersand es foreign home rest = feed-to es foreign (return_state home) (in_reference (reference.Ampersand home)) 38 rest (at home)
  where
    at : (b : ReturnState) → row es foreign (return_state b) Ampersand 38 ≡ to (in_reference (reference.Ampersand b))
    at back.Data = refl
    at (back.Rcdata last) = refl
    at (back.AttributeValueQuoted tag value quote.Double) = refl
    at (back.AttributeValueQuoted tag value quote.Single) = refl
    at (back.AttributeValueUnquoted tag value) = refl

pub begun : (es : Entities) (c : ℕ) → begins (class_of c) ≡ true → begins_some (38 ∷ c ∷ []) es ≡ true → InName es (38 ∷ c ∷ [])
begun es c b some foreign back rest =
    let k = class_of c in
    let more = on_row es back (38 ∷ []) k c (begins_in_name k b) some in
    ampersand es foreign back (c ∷ rest)
    ∙ feed-again es foreign (in_reference (reference.Ampersand back)) (held back (38 ∷ [])) c rest (begins_row back k c b) (ap (λ (r : Step). r.again) more)
    ∙ feed-to es foreign (held back (38 ∷ [])) (held back (38 ∷ c ∷ [])) c rest more

pub InName-more : (es : Entities) (cs now : List ℕ) (c : ℕ) → now ≡ cs ++ c ∷ [] → in_name (class_of c) ≡ true → begins_some (cs ++ c ∷ []) es ≡ true → InName es cs → InName es now
InName-more es cs now c e k some n foreign back rest =
    ap (λ (l : List ℕ). feed es foreign (return_state back) (l ++ rest)) e
    ∙ ap (feed es foreign (return_state back)) (append_assoc cs (c ∷ []) rest)
    ∙ n foreign back (c ∷ rest)
    ∙ feed-to es foreign (held back cs) (held back (cs ++ c ∷ [])) c rest (on_row es back cs (class_of c) c k some)
    ∙ ap (λ (l : List ℕ). feed es foreign (held back l) rest) (sym e)

InName-same : (es : Entities) {xs ys : List ℕ} → xs ≡ ys → InName es ys → InName es xs
InName-same es e n foreign back rest =
    ap (λ (l : List ℕ). feed es foreign (return_state back) (l ++ rest)) e ∙ n foreign back rest ∙ ap (λ (l : List ℕ). feed es foreign (held back l) rest) (sym e)

-- ---- its end

pub stop_row : (es : Entities) (back : ReturnState) (cs : List ℕ) (k : Class) (c : ℕ) → begins_some (cs ++ c ∷ []) es ≡ false → named_row es back cs k c ≡ named_step back cs (longest cs es) k
stop_row es back cs InputEnd c e = refl
stop_row es back cs _ c e = rw e refl

-- where references return to no character is read again
pub literally_done : (es : Entities) (foreign : Bool) (back : ReturnState) (us : List ℕ) (k : Class) (c : ℕ) → (row es foreign (literally back us true).state k c).again ≡ false
literally_done es foreign back.Data us Ampersand c = refl
literally_done es foreign back.Data us _ c = refl
literally_done es foreign (back.Rcdata last) us Ampersand c = refl
literally_done es foreign (back.Rcdata last) us _ c = refl
literally_done es foreign (back.AttributeValueQuoted tag value quote.Double) us Ampersand c = refl
literally_done es foreign (back.AttributeValueQuoted tag value quote.Double) us _ c = refl
literally_done es foreign (back.AttributeValueQuoted tag value quote.Single) us Ampersand c = refl
literally_done es foreign (back.AttributeValueQuoted tag value quote.Single) us _ c = refl
literally_done es foreign (back.AttributeValueUnquoted tag value) us Ampersand c = refl
literally_done es foreign (back.AttributeValueUnquoted tag value) us _ c = refl

pub literally_again : (back : ReturnState) (us : List ℕ) → (literally back us true).again ≡ true
literally_again back.Data us = refl
literally_again (back.Rcdata last) us = refl
literally_again (back.AttributeValueQuoted tag value q) us = refl
literally_again (back.AttributeValueUnquoted tag value) us = refl

and-false : (a : Bool) → (a && false) ≡ false
and-false true = refl
and-false false = refl

-- the longest name is all that is held, and ends in a `;`
whole_step : (back : ReturnState) (cs : List ℕ) (e : Entity) (k : Class) → length e.name ≡ length cs → ends_in_semicolon e.name ≡ true → named_step back cs (Some e) k ≡ literally back e.characters true
whole_step back cs e k same semicolon =
    let beyond = drop (length e.name) cs in
    let none : beyond ≡ [] = ap (λ (n : ℕ). drop n cs) same ∙ drop-length cs in
    let kept : is_kept back e beyond k ≡ false =
    ap (λ (v : Bool). is_in_attribute back && (not v && goes_on (class_behind beyond k))) semicolon ∙ and-false (is_in_attribute back) in
    ap (λ (v : Bool). if v then literally back cs true else literally back (e.characters ++ beyond) true) kept
    ∙ ap (λ (l : List ℕ). literally back (e.characters ++ l) true) none
    ∙ ap (λ (l : List ℕ). literally back l true) (append-nil e.characters)

pub read-again : (es : Entities) (foreign : Bool) (s : TokState) (c : ℕ) (r : Step) → row es foreign s (class_of c) c ≡ r → r.again ≡ true → (row es foreign r.state (class_of c) c).again ≡ false → read es foreign s c ≡ after_tokens r.tokens (read es foreign r.state c)
read-again es foreign s c r e more done =
    let k = class_of c in
    settle-again es foreign readings s k c (omega arith) (ap (λ (q : Step). q.again) e ∙ more)
    ∙ ap (λ (q : Step). after_tokens q.tokens (settle es foreign 4 q.state k c)) e
    ∙ ap (after_tokens r.tokens) (settle-done es foreign 4 r.state k c (omega arith) done ∙ sym (settle-done es foreign readings r.state k c (omega arith) done))

-- a character that makes first these tokens and then those of another state
pub feed-after : (es : Entities) (foreign : Bool) (s t : TokState) (ts : List Token) (c : ℕ) (rest : List ℕ) → read es foreign s c ≡ after_tokens ts (read es foreign t c) → feed es foreign s (c ∷ rest) ≡ after_tokens ts (feed es foreign t (c ∷ rest))
unfolding feed
feed-after es foreign s t ts c rest e =
    let n = read es foreign t c in
    let m = feed es foreign n.state rest in
    ap (λ (r : Reached). after_tokens r.tokens (feed es foreign r.state rest)) e ∙ ap (λ (l : List Token). record { tokens = l; state = m.state }) (append_assoc ts n.tokens m.tokens)

-- the character behind a name
behind_name : (es : Entities) (foreign : Bool) (back : ReturnState) (cs : List ℕ) (best : Match) (c : ℕ) → begins_some (cs ++ c ∷ []) es ≡ false → Tells (longest cs es) (Some best) → best.length ≡ length cs → best.ends_in_semicolon ≡ true
    → read es foreign (held back cs) c ≡ after_tokens (literally back (characters_in best.characters) true).tokens (read es foreign (literally back (characters_in best.characters) true).state c)
behind_name es foreign back cs best c stops tells whole semicolon =
    let e : Entity = tells.0 in
    let is : IsMatch e best = tells.2 in
    let us = characters_in best.characters in
    let k = class_of c in
    read-again es foreign (held back cs) c (literally back us true)
    (stop_row es back cs k c stops ∙ ap (λ (o : Option Entity). named_step back cs o k) tells.1 ∙ whole_step back cs e k (sym is.length_is ∙ whole) (sym is.semicolon_is ∙ semicolon)
    ∙ ap (λ (l : List ℕ). literally back l true) (sym is.characters_are))
    (literally_again back us) (literally_done es foreign back us k c)

pub means : (es : Entities) (cs : List ℕ) (best : Match) → InName es cs → ((c : ℕ) → begins_some (cs ++ c ∷ []) es ≡ false) → Tells (longest cs es) (Some best) → best.length ≡ length cs → best.ends_in_semicolon ≡ true
    → Means es cs (characters_in best.characters)
means es cs best n stops tells whole semicolon foreign back c rest =
    let is = literally back (characters_in best.characters) true in
    n foreign back (c ∷ rest) ∙ feed-after es foreign (held back cs) is.state is.tokens c rest (behind_name es foreign back cs best c (stops c) tells whole semicolon)

pub name_state : (es : Entities) (foreign : Bool) (cs : List ℕ) → InName es cs → feed es foreign data_state cs ≡ record { tokens = []; state = held back.Data cs }
unfolding feed
name_state es foreign cs n = ap (feed es foreign data_state) (sym (append-nil cs)) ∙ n foreign back.Data []

pub refers : (es : Entities) (cs : List ℕ) (best : Match) → InName es cs → ((c : ℕ) → begins_some (cs ++ c ∷ []) es ≡ false) → Tells (longest cs es) (Some best) → best.length ≡ length cs → best.ends_in_semicolon ≡ true
    → Refers es cs (characters_in best.characters)
refers es cs best n stops tells whole semicolon = record {
  silent = λ foreign. ap (λ (m : Reached). m.tokens) (name_state es foreign cs n);
  behind = λ foreign c.
      ap (λ (m : Reached). read es foreign m.state c) (name_state es foreign cs n) ∙ behind_name es foreign back.Data cs best c (stops c) tells whole semicolon;
}

-- ---- a name of the table

pub not_letter : (c n : ℕ) → is_ascii_alphanumeric c ≡ true → is_ascii_alphanumeric n ≡ false → (c == n) ≡ false
not_letter c n h k = ne_eqb c n (λ e. true≢false (sym h ∙ ap is_ascii_alphanumeric e ∙ k))

unless : (t : Bool) (x y : Class) → t ≡ false → begins y ≡ true → begins (if t then x else y) ≡ true
unless true x y e h = absurd (true≢false e)
unless false x y e h = h

either : (t : Bool) (x y : Class) → begins x ≡ true → (t ≡ false → begins y ≡ true) → begins (if t then x else y) ≡ true
either true x y h k = h
either false x y h k = k refl

when : (t : Bool) (x y : Class) → t ≡ true → begins x ≡ true → begins (if t then x else y) ≡ true
when true x y e h = h
when false x y e h = absurd (true≢false (sym e))

no_digit : (a b d : Bool) → ((a || b) || d) ≡ true → a ≡ false → (b || d) ≡ true
no_digit true b d h e = absurd (true≢false e)
no_digit false b d h e = h

pub class-begins : (c : ℕ) → is_ascii_alphanumeric c ≡ true → begins (class_of c) ≡ true
class-begins c h =
    let no = λ (n : ℕ) (k : is_ascii_alphanumeric n ≡ false). not_letter c n h k in
    unless (c == 0) _ _ (no 0 refl)
    (unless (c == 9 || c == 10 || c == 12 || c == 32) _ _ (rw (no 9 refl, no 10 refl, no 12 refl, no 32 refl) refl)
    (unless (c == 33) _ _ (no 33 refl)
    (unless (c == 34) _ _ (no 34 refl)
    (unless (c == 35) _ _ (no 35 refl)
    (unless (c == 38) _ _ (no 38 refl)
    (unless (c == 39) _ _ (no 39 refl)
    (unless (c == 45) _ _ (no 45 refl)
    (unless (c == 47) _ _ (no 47 refl)
    (either (nat_le 48 c && nat_le c 57) _ _ refl (λ d.
    unless (c == 59) _ _ (no 59 refl)
    (unless (c == 60) _ _ (no 60 refl)
    (unless (c == 61) _ _ (no 61 refl)
    (unless (c == 62) _ _ (no 62 refl)
    (unless (c == 63) _ _ (no 63 refl)
    (when (is_ascii_alphabetic c) _ _ (no_digit (is_in_range 48 57 c) (is_in_range 65 90 c) (is_in_range 97 122 c) h d) refl)))))))))))))))

pub class-in_name : (c : ℕ) → in_spelling c ≡ true → in_name (class_of c) ≡ true
class-in_name c h = by (is_ascii_alphanumeric c) refl
  where
    by : (v : Bool) → is_ascii_alphanumeric c ≡ v → in_name (class_of c) ≡ true
    by true e = begins_in_name (class_of c) (class-begins c e)
    by false e =
        let is : c ≡ 59 = (Decides-eqb c 59).0 (ap (λ (v : Bool). v || (c == 59)) (sym e) ∙ h) in
        ap (λ (n : ℕ). in_name (class_of n)) is

front-append : (xs ys : List ℕ) → is_front xs (xs ++ ys) ≡ true
front-append [] ys = refl
front-append (x ∷ xs) ys = and_from (x == x) (is_front xs (xs ++ ys)) (eq-eqb x x refl) (front-append xs ys)

named_first : (b : Bool) (f e : Entity) (rest : Option Entity) → cond b (Some f) rest ≡ Some e → b ≡ true → f ≡ e
named_first true f e rest is h = cc
named_first false f e rest is h = absurd (true≢false (sym h))

named_rest : (b : Bool) (f e : Entity) (rest : Option Entity) → cond b (Some f) rest ≡ Some e → b ≡ false → rest ≡ Some e
named_rest true f e rest is h = absurd (true≢false h)
named_rest false f e rest is h = is

-- some name begins with each front of a name
fronts : (es : Entities) (cs : List ℕ) (e : Entity) → entity_named cs es ≡ Some e → (front : List ℕ) → is_front front cs ≡ true → begins_some front es ≡ true
fronts [] cs e is front h = cc
fronts (f ∷ fs) cs e is front h = by (bytes_eq f.name cs) refl (λ t. fronts fs cs e (named_rest (bytes_eq f.name cs) f e (entity_named cs fs) is t) front h)
  where
    by : (v : Bool) → bytes_eq f.name cs ≡ v → (bytes_eq f.name cs ≡ false → begins_some front fs ≡ true) → begins_some front (f ∷ fs) ≡ true
    by true t others = or_left (is_front front f.name) (begins_some front fs) (ap (is_front front) ((bytes_eq-Decides f.name cs).0 t) ∙ h)
    by false t others = or_right (is_front front f.name) (begins_some front fs) (others t)

name_of_named : (es : Entities) (cs : List ℕ) (e : Entity) → entity_named cs es ≡ Some e → e.name ≡ cs
name_of_named [] cs e is = cc
name_of_named (f ∷ fs) cs e is = by (bytes_eq f.name cs) refl (λ t. name_of_named fs cs e (named_rest (bytes_eq f.name cs) f e (entity_named cs fs) is t))
  where
    by : (v : Bool) → bytes_eq f.name cs ≡ v → (bytes_eq f.name cs ≡ false → e.name ≡ cs) → e.name ≡ cs
    by true t others = ap (λ (x : Entity). x.name) (sym (named_first (bytes_eq f.name cs) f e (entity_named cs fs) is t)) ∙ (bytes_eq-Decides f.name cs).0 t
    by false t others = others t

-- what was read is held, and the rest of the name goes on from it
in_name-rest : (es : Entities) (done rest : List ℕ) → list_all in_spelling rest ≡ true → ((front : List ℕ) → is_front front (done ++ rest) ≡ true → begins_some front es ≡ true) → InName es done → InName es (done ++ rest)
in_name-rest es done [] all some n = InName-same es (append-nil done) n
in_name-rest es done (c ∷ rest) all some n =
    let p = and_parts (in_spelling c) (list_all in_spelling rest) all in
    let longer : List ℕ = done ++ c ∷ [] in
    let same : longer ++ rest ≡ done ++ c ∷ rest = append_assoc done (c ∷ []) rest in
    let now : InName es longer = InName-more es done longer c refl (class-in_name c p.0) (some longer (ap (is_front longer) (sym same) ∙ front-append longer rest)) n in
    InName-same es (sym same) (in_name-rest es longer rest p.1 (λ front h. some front (ap (is_front front) (sym same) ∙ h)) now)

named : (es : Entities) (cs : List ℕ) (e : Entity) → entity_named cs es ≡ Some e → is_name cs ≡ true → InName es cs
named es cs e is name =
    let s = spelling cs name in
    let first : List ℕ = 38 ∷ s.first ∷ [] in
    let some = fronts es cs e is in
    let begun_with = begun es s.first (class-begins s.first s.begins) (some first (ap (is_front first) s.is ∙ front-append first s.rest)) in
    InName-same es s.is (in_name-rest es first s.rest s.goes_on (λ front h. some front (ap (is_front front) s.is ∙ h)) begun_with)

-- ---- its `;`, behind which no name goes on

last_apart : (x : ℕ) (xs : List ℕ) → (slice_index (x ∷ xs) (length xs) == 59) ≡ true → (front : List ℕ) × (x ∷ xs ≡ front ++ 59 ∷ [])
last_apart x [] h = ([], ap (λ (n : ℕ). n ∷ []) ((Decides-eqb x 59).0 h))
last_apart x (y ∷ ys) h = let r = last_apart y ys h in (x ∷ r.0, ap (λ (l : List ℕ). x ∷ l) r.1)

semicolon_apart : (cs : List ℕ) → ends_in_semicolon cs ≡ true → (front : List ℕ) × (cs ≡ front ++ 59 ∷ [])
semicolon_apart [] h = cc
semicolon_apart (x ∷ xs) h =
    let long : length (x ∷ xs) - 1 ≡ length xs = omega arith in
    last_apart x xs (ap (λ (n : ℕ). slice_index (x ∷ xs) n == 59) (sym long) ∙ h)

stops : (es : Entities) (cs : List ℕ) → ends_in_semicolon cs ≡ true → ((text : List ℕ) (c : ℕ) → begins_some (text ++ 59 ∷ c ∷ []) es ≡ false) → (c : ℕ) → begins_some (cs ++ c ∷ []) es ≡ false
stops es cs h law c =
    let r = semicolon_apart cs h in
    ap (λ (l : List ℕ). begins_some (l ++ c ∷ []) es) r.1 ∙ ap (λ (l : List ℕ). begins_some l es) (append_assoc r.0 (59 ∷ []) (c ∷ [])) ∙ law r.0 c

-- what was found of a text that is a name and ends in `;`
pub record IsFound (es : Entities) (cs : List ℕ) (m : Match) : Type 0 where
  pub held : InName es cs
  pub stops : (c : ℕ) → begins_some (cs ++ c ∷ []) es ≡ false
  pub whole : m.length ≡ length cs

pub is_found : (es : Entities) (cs : List ℕ) (m : Match) → Tells (entity_named cs es) (Some m) → is_name cs ≡ true → m.ends_in_semicolon ≡ true → ((text : List ℕ) (c : ℕ) → begins_some (text ++ 59 ∷ c ∷ []) es ≡ false) → IsFound es cs m
is_found es cs m tells name semicolon law =
    let e : Entity = tells.0 in
    let is : IsMatch e m = tells.2 in
    let same : e.name ≡ cs = name_of_named es cs e tells.1 in
    record {
      held = named es cs e tells.1 name;
      stops = stops es cs (ap ends_in_semicolon (sym same) ∙ sym is.semicolon_is ∙ semicolon) law;
      whole = is.length_is ∙ ap length same;
    }

-- no name has a CR
spelling-cr : (cs : List ℕ) → list_all in_spelling cs ≡ true → has_cr cs ≡ false
spelling-cr [] h = refl
spelling-cr (c ∷ cs) h =
    let p = and_parts (in_spelling c) (list_all in_spelling cs) h in
    or_from (c == 13) (has_cr cs) (ne_eqb c 13 (λ e. true≢false (sym p.0 ∙ ap in_spelling e))) (spelling-cr cs p.1)

pub name-cr : (cs : List ℕ) → is_name cs ≡ true → has_cr cs ≡ false
name-cr cs name =
    let s = spelling cs name in
    ap has_cr s.is ∙ or_from (s.first == 13) (has_cr s.rest) (not_letter s.first 13 s.begins refl) (spelling-cr s.rest s.goes_on)
