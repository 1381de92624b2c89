-- A CDATA section: its characters as they are, up to the first `]]>`.
use Rattle.std.proofs.Common.{◌≡◌, ℕ, ◌==◌, Bool, true, false, true≢false, ◌||◌, ◌&&◌, if◌then◌else◌, List, [], ◌∷◌, ◌++◌, refl, sym, ap, subst, ◌∙◌, codes}
use Rattle.std.specs.Prelude.{map, nat_le, not}
use Rattle.std.specs.Char.{is_ascii_alphabetic}
use Rattle.std.proofs.lemmas.Bool.{and_parts}
use Rattle.std.proofs.lemmas.Bool.Decides.{Decides-eqb}
use Rattle.html_types.specs.declared.token.Token.{Token}
use Rattle.html_types.specs.declared.token.Token.TheVariants.{Character}
use Rattle.html_types.specs.declared.mark_state.CdataState.TheVariants.{Section, Bracket, End}
use Rattle.html_types.specs.declared.state.TokState.{TokState}
use Rattle.html_types.specs.declared.class.Class.{Class}
use Rattle.html_types.specs.declared.class.Class.TheVariants.{RightBracket, Greater, InputEnd}
use Rattle.standard.specs.Class.{class_of}
use Rattle.standard.specs.Entities.{Entities, is_front}
use Rattle.standard.specs.Step.{data_state}
use Rattle.standard.specs.CdataStates.{in_cdata}
use Rattle.standard.specs.Tokenizer.{Reached, after_tokens, settle, reading, read, feed}
use Rattle.tokenizer_laws.specs.TokenizerLaws.{lacks_close, CdataIsText}

-- ---- a character other than `]` and `>`

is_other : Class → Bool
is_other RightBracket = false
is_other Greater = false
is_other InputEnd = false
is_other _ = true

either : (t : Bool) (x y : Class) → is_other x ≡ true → is_other y ≡ true → is_other (if t then x else y) ≡ true
either true x y h k = h
either false x y h k = k

unless : (t : Bool) (x y : Class) → t ≡ false → is_other y ≡ true → is_other (if t then x else y) ≡ true
unless true x y e k = absurd (true≢false e)
unless false x y e k = k

class-other : (c : ℕ) → (c == 93) ≡ false → (c == 62) ≡ false → is_other (class_of c) ≡ true
unfolding is_other
class-other c no_bracket no_greater =
    either (c == 0) _ _ refl
    (either (c == 9 || c == 10 || c == 12 || c == 32) _ _ refl
    (either (c == 33) _ _ refl
    (either (c == 34) _ _ refl
    (either (c == 35) _ _ refl
    (either (c == 38) _ _ refl
    (either (c == 39) _ _ refl
    (either (c == 45) _ _ refl
    (either (c == 47) _ _ refl
    (either (nat_le 48 c && nat_le c 57) _ _ refl
    (either (c == 59) _ _ refl
    (either (c == 60) _ _ refl
    (either (c == 61) _ _ refl
    (unless (c == 62) _ _ no_greater
    (either (c == 63) _ _ refl
    (either (is_ascii_alphabetic c) _ _ refl
    (either (c == 91) _ _ refl
    (unless (c == 93) _ _ no_bracket refl)))))))))))))))))

-- what comes of it: what was held is emitted before it
section-other : (es : Entities) (foreign : Bool) (k : Class) (c : ℕ) → is_other k ≡ true → reading es foreign (in_cdata Section) k c ≡ record { tokens = Character c ∷ []; state = in_cdata Section }
unfolding is_other settle
section-other es foreign RightBracket c h = absurd (true≢false (sym h))
section-other es foreign Greater c h = absurd (true≢false (sym h))
section-other es foreign InputEnd c h = absurd (true≢false (sym h))
section-other es foreign _ c h = refl

bracket-other : (es : Entities) (foreign : Bool) (k : Class) (c : ℕ) → is_other k ≡ true → reading es foreign (in_cdata Bracket) k c ≡ record { tokens = Character 93 ∷ Character c ∷ []; state = in_cdata Section }
unfolding is_other settle
bracket-other es foreign RightBracket c h = absurd (true≢false (sym h))
bracket-other es foreign Greater c h = absurd (true≢false (sym h))
bracket-other es foreign InputEnd c h = absurd (true≢false (sym h))
bracket-other es foreign _ c h = refl

end-other : (es : Entities) (foreign : Bool) (k : Class) (c : ℕ) → is_other k ≡ true → reading es foreign (in_cdata End) k c ≡ record { tokens = Character 93 ∷ Character 93 ∷ Character c ∷ []; state = in_cdata Section }
unfolding is_other settle
end-other es foreign RightBracket c h = absurd (true≢false (sym h))
end-other es foreign Greater c h = absurd (true≢false (sym h))
end-other es foreign InputEnd c h = absurd (true≢false (sym h))
end-other es foreign _ c h = refl

-- ---- a text in each of the states, up to its `]]>`

abbrev made : List Token → Reached
made ts = record { tokens = ts; state = data_state }

abbrev InSection : Entities → Bool → List ℕ → Type 0
InSection es foreign cs = lacks_close (cs ++ codes "]]") ≡ true → feed es foreign (in_cdata Section) (cs ++ codes "]]>") ≡ made (map Character cs)

-- a `]` is held
abbrev InBracket : Entities → Bool → List ℕ → Type 0
InBracket es foreign cs = lacks_close (93 ∷ (cs ++ codes "]]")) ≡ true → feed es foreign (in_cdata Bracket) (cs ++ codes "]]>") ≡ made (Character 93 ∷ map Character cs)

-- two are held
abbrev InEnd : Entities → Bool → List ℕ → Type 0
InEnd es foreign cs = lacks_close (93 ∷ 93 ∷ (cs ++ codes "]]")) ≡ true → feed es foreign (in_cdata End) (cs ++ codes "]]>") ≡ made (Character 93 ∷ Character 93 ∷ map Character cs)

record Reads (es : Entities) (foreign : Bool) (cs : List ℕ) : Type 0 where
  pub section : InSection es foreign cs
  pub bracket : InBracket es foreign cs
  pub end : InEnd es foreign cs

feed-read : (es : Entities) (foreign : Bool) (s t : TokState) (ts us : List Token) (c : ℕ) (cs : List ℕ) → read es foreign s c ≡ record { tokens = ts; state = t } → feed es foreign t cs ≡ made us → feed es foreign s (c ∷ cs) ≡ made (ts ++ us)
unfolding feed
feed-read es foreign s t ts us c cs e f = ap (λ (m : Reached). after_tokens m.tokens (feed es foreign m.state cs)) e ∙ ap (after_tokens ts) f

lacks-rest : (c : ℕ) (cs : List ℕ) → lacks_close (c ∷ cs) ≡ true → lacks_close cs ≡ true
lacks-rest c cs h = (and_parts (not (is_front (codes "]]>") (c ∷ cs))) (lacks_close cs) h).1

lacks-rest_of_two : (c d : ℕ) (cs : List ℕ) → lacks_close (c ∷ d ∷ cs) ≡ true → lacks_close cs ≡ true
lacks-rest_of_two c d cs h = lacks-rest d cs (lacks-rest c (d ∷ cs) h)

-- one more character in front: `]`, `>` or another
with-bracket : (es : Entities) (foreign : Bool) (cs : List ℕ) → Reads es foreign cs → Reads es foreign (93 ∷ cs)
unfolding settle
with-bracket es foreign cs r =
    let rest = cs ++ codes "]]>" in
    let lacked = cs ++ codes "]]" in
    record {
      section = λ h. feed-read es foreign (in_cdata Section) (in_cdata Bracket) [] (Character 93 ∷ map Character cs) 93 rest refl (r.bracket h);
      bracket = λ h. feed-read es foreign (in_cdata Bracket) (in_cdata End) [] (Character 93 ∷ Character 93 ∷ map Character cs) 93 rest refl (r.end h);
      end = λ h. feed-read es foreign (in_cdata End) (in_cdata End) (Character 93 ∷ []) (Character 93 ∷ Character 93 ∷ map Character cs) 93 rest refl (r.end (lacks-rest 93 (93 ∷ 93 ∷ lacked) h));
    }

with-greater : (es : Entities) (foreign : Bool) (cs : List ℕ) → Reads es foreign cs → Reads es foreign (62 ∷ cs)
unfolding settle
with-greater es foreign cs r =
    let rest = cs ++ codes "]]>" in
    let lacked = cs ++ codes "]]" in
    record {
      section = λ h. feed-read es foreign (in_cdata Section) (in_cdata Section) (Character 62 ∷ []) (map Character cs) 62 rest refl (r.section (lacks-rest 62 lacked h));
      bracket = λ h. feed-read es foreign (in_cdata Bracket) (in_cdata Section) (Character 93 ∷ Character 62 ∷ []) (map Character cs) 62 rest refl (r.section (lacks-rest_of_two 93 62 lacked h));
      end = λ h. absurd (true≢false (sym h));
    }

with-other : (es : Entities) (foreign : Bool) (c : ℕ) (cs : List ℕ) → is_other (class_of c) ≡ true → Reads es foreign cs → Reads es foreign (c ∷ cs)
with-other es foreign c cs o r =
    let rest = cs ++ codes "]]>" in
    let lacked = cs ++ codes "]]" in
    let k = class_of c in
    record {
      section = λ h. feed-read es foreign (in_cdata Section) (in_cdata Section) (Character c ∷ []) (map Character cs) c rest (section-other es foreign k c o) (r.section (lacks-rest c lacked h));
      bracket = λ h. feed-read es foreign (in_cdata Bracket) (in_cdata Section) (Character 93 ∷ Character c ∷ []) (map Character cs) c rest (bracket-other es foreign k c o) (r.section (lacks-rest_of_two 93 c lacked h));
      end = λ h. feed-read es foreign (in_cdata End) (in_cdata Section) (Character 93 ∷ Character 93 ∷ Character c ∷ []) (map Character cs) c rest (end-other es foreign k c o) (r.section (lacks-rest_of_two 93 c lacked (lacks-rest 93 (93 ∷ c ∷ lacked) h)));
    }

longer : (es : Entities) (foreign : Bool) (c : ℕ) (cs : List ℕ) → Reads es foreign cs → Reads es foreign (c ∷ cs)
longer es foreign c cs r = by (c == 93) (c == 62) refl refl
  where
    by : (bracket greater : Bool) → (c == 93) ≡ bracket → (c == 62) ≡ greater → Reads es foreign (c ∷ cs)
    by true greater e f = subst (λ (x : ℕ). Reads es foreign (x ∷ cs)) (sym ((Decides-eqb c 93).0 e)) (with-bracket es foreign cs r)
    by false true e f = subst (λ (x : ℕ). Reads es foreign (x ∷ cs)) (sym ((Decides-eqb c 62).0 f)) (with-greater es foreign cs r)
    by false false e f = with-other es foreign c cs (class-other c e f) r

reads : (es : Entities) (foreign : Bool) (cs : List ℕ) → Reads es foreign cs
unfolding feed settle
reads es foreign [] = record { section = λ h. refl; bracket = λ h. refl; end = λ h. refl }
reads es foreign (c ∷ cs) = longer es foreign c cs (reads es foreign cs)

pub cdata-is-text : CdataIsText
cdata-is-text es foreign cs = (reads es foreign cs).section
