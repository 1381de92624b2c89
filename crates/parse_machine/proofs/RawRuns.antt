-- A `<` that begins nothing in a text that is read up to its end tag, with the character behind it.
use Rattle.std.proofs.Common.{◌≡◌, ◌==◌, ◌&&◌, ◌||◌, ◌≤◌, ℕ, Bool, true, false, List, [], ◌∷◌, ◌++◌, length, take, refl, sym, ap, ◌∙◌, subst, append-nil}
use Rattle.std.specs.Prelude.{Option, if◌then◌else◌, nat_le}
use Rattle.std.specs.Char.{is_ascii_alphabetic}
use Rattle.std.specs.Str.{chars}
use Rattle.html_types.specs.declared.class.Class.{Class}
use Rattle.html_types.specs.declared.class.Class.TheVariants.{Slash, Bang}
use Rattle.html_types.specs.declared.word.Word.{Word}
use Rattle.html_types.specs.declared.state.TokState.{TokState}
use Rattle.html_types.specs.declared.state.TokState.TheVariants as group
use Rattle.html_types.specs.declared.state.TextState.TheVariants.{Raw, RawLessThan}
use Rattle.html_types.specs.declared.state.RawText.TheVariants.{Rcdata, Rawtext, ScriptData}
use Rattle.html_types.specs.declared.token.Token.{Token}
use Rattle.html_types.specs.declared.token.Token.TheVariants.{Character}
use Rattle.html_types.specs.declared.operation.Op.{Op}
use Rattle.html_types.specs.declared.open.Open.{Open}
use Rattle.html_types.specs.declared.instruction.Next.TheVariants as next
use Rattle.html_types.specs.declared.instruction.Stop.TheVariants as stop
use Rattle.standard.specs.Class.{class_of, is_mark}
use Rattle.standard.specs.Entities.{Entities}
use Rattle.standard.specs.Foreign.{is_foreign}
use Rattle.standard.specs.Instructions.{here, texts}
use Rattle.standard.specs.WhiteSpace.{is_space}
use Rattle.standard.specs.Step.{Step, emit, emit_again, in_text}
use Rattle.standard.specs.Tokenizer.{Reached, after_tokens, row, settle, reading, read}
use Rattle.standard.specs.Parser.{Parser, parser, Took, took, after_ops, build, take_character, Parsed, after_character, and_rest, parse}
use Rattle.builder_state.specs.Texts.{text_rules, keeps_ok, TakesText, behind_text}
use Rattle.parse_machine.specs.Runs.{reads_runs, reads_raw, TakesRuns, Takes}
use Rattle.parse_machine.specs.declared.machine.Ran.{Ran}
use Rattle.parse_machine.proofs.MachineLemmas.{IsOver, build_token}
use Rattle.parse_machine.proofs.Runs.{behind, added, class-ordinary, plain_row, construct_text, still_takes}
use Rattle.parse_machine.proofs.Tags.{none_before, taken, silent_taken, takes}

-- ---- what is read

-- nothing begins with it behind a `<`
begins_none : Class → Bool
begins_none Slash = false
begins_none Bang = false
begins_none _ = true

either : (t : Bool) (x y : Class) → begins_none x ≡ true → begins_none y ≡ true → begins_none (if t then x else y) ≡ true
either true x y h k = h
either false x y h k = k

other : (t : Bool) (x y : Class) → t ≡ false → begins_none y ≡ true → begins_none (if t then x else y) ≡ true
other true x y e k = cc
other false x y e k = k

class-none : (c : ℕ) → (c == 47) ≡ false → (c == 33) ≡ false → begins_none (class_of c) ≡ true
unfolding begins_none
class-none c no_slash no_bang =
    either (c == 0) _ _ refl
    (either (c == 9 || c == 10 || c == 12 || c == 32) _ _ refl
    (other (c == 33) _ _ no_bang
    (either (c == 34) _ _ refl
    (either (c == 35) _ _ refl
    (either (c == 38) _ _ refl
    (either (c == 39) _ _ refl
    (either (c == 45) _ _ refl
    (other (c == 47) _ _ no_slash
    (either (nat_le 48 c && nat_le c 57) _ _ refl
    (either (c == 59) _ _ refl
    (either (c == 60) _ _ refl
    (either (c == 61) _ _ refl
    (either (c == 62) _ _ refl
    (either (c == 63) _ _ refl
    (either (is_ascii_alphabetic c) _ _ refl
    (either (c == 91) _ _ refl
    (either (c == 93) _ _ refl refl)))))))))))))))))

after_less : TokState → TokState
after_less (group.Text (Raw raw last)) = group.Text (RawLessThan raw last)
after_less s = s

raw_runs : (s : TokState) → reads_raw s ≡ true → reads_runs s ≡ true
raw_runs (group.Text (Raw Rcdata last)) h = refl
raw_runs (group.Text (Raw Rawtext last)) h = refl
raw_runs (group.Text (Raw ScriptData last)) h = refl
raw_runs _ h = absurd (cc)

less_read : (es : Entities) (f : Bool) (s : TokState) → reads_raw s ≡ true → read es f s 60 ≡ record { tokens = []; state = after_less s }
unfolding settle after_less
less_read es f (group.Text (Raw Rcdata last)) h = refl
less_read es f (group.Text (Raw Rawtext last)) h = refl
less_read es f (group.Text (Raw ScriptData last)) h = refl
less_read es f _ h = absurd (cc)

rcdata_less : (es : Entities) (f : Bool) (last : Option Word) (k : Class) (c : ℕ) → begins_none k ≡ true → row es f (in_text (RawLessThan Rcdata last)) k c ≡ emit_again (Character 60 ∷ []) (in_text (Raw Rcdata last))
unfolding begins_none
rcdata_less es f last Slash c e = absurd (cc)
rcdata_less es f last Bang c e = absurd (cc)
rcdata_less es f last _ c e = refl

rawtext_less : (es : Entities) (f : Bool) (last : Option Word) (k : Class) (c : ℕ) → begins_none k ≡ true → row es f (in_text (RawLessThan Rawtext last)) k c ≡ emit_again (Character 60 ∷ []) (in_text (Raw Rawtext last))
unfolding begins_none
rawtext_less es f last Slash c e = absurd (cc)
rawtext_less es f last Bang c e = absurd (cc)
rawtext_less es f last _ c e = refl

script_less : (es : Entities) (f : Bool) (last : Option Word) (k : Class) (c : ℕ) → begins_none k ≡ true → row es f (in_text (RawLessThan ScriptData last)) k c ≡ emit_again (Character 60 ∷ []) (in_text (Raw ScriptData last))
unfolding begins_none
script_less es f last Slash c e = absurd (cc)
script_less es f last Bang c e = absurd (cc)
script_less es f last _ c e = refl

less_row : (es : Entities) (f : Bool) (s : TokState) (k : Class) (c : ℕ) → reads_raw s ≡ true → begins_none k ≡ true → row es f (after_less s) k c ≡ emit_again (Character 60 ∷ []) s
unfolding after_less
less_row es f (group.Text (Raw Rcdata last)) k c h e = rcdata_less es f last k c e
less_row es f (group.Text (Raw Rawtext last)) k c h e = rawtext_less es f last k c e
less_row es f (group.Text (Raw ScriptData last)) k c h e = script_less es f last k c e
less_row es f _ k c h e = absurd (cc)

-- a character that is read again
again_then : (es : Entities) (f : Bool) (s s' s'' : TokState) (ts us : List Token) (k : Class) (c : ℕ) → row es f s k c ≡ emit_again ts s' → row es f s' k c ≡ emit us s'' → reading es f s k c ≡ record { tokens = ts ++ us; state = s'' }
unfolding settle
again_then es f s s' s'' ts us k c e g =
    ap (λ (r : Step). if r.again then after_tokens r.tokens (settle es f 4 r.state k c) else record { tokens = r.tokens; state = r.state }) e
    ∙ ap (λ (r : Step). after_tokens ts (if r.again then after_tokens r.tokens (settle es f 3 r.state k c) else record { tokens = r.tokens; state = r.state })) g

or-first : (a b : Bool) → (a || b) ≡ false → a ≡ false
or-first false b e = refl
or-first true b e = e

or-second : (a b : Bool) → (a || b) ≡ false → b ≡ false
or-second false b e = e
or-second true b e = cc

-- ---- both characters

module _ (es : Entities) (s : TokState) (b : Open) (c : ℕ) (reads : reads_raw s ≡ true) (h : TakesText b) (plain : is_mark c ≡ false) (no_slash : (c == 47) ≡ false) (no_bang : (c == 33) ≡ false) where
  three : (c == 0 || c == 13 || c == 38) ≡ false
  three = or-first (c == 0 || c == 13 || c == 38) (c == 60) plain

  two : (c == 0 || c == 13) ≡ false
  two = or-first (c == 0 || c == 13) (c == 38) three

  no_nul : (c == 0) ≡ false
  no_nul = or-first (c == 0) (c == 13) two

  behind_read : read es (is_foreign b) (after_less s) c ≡ record { tokens = Character 60 ∷ Character c ∷ []; state = s }
  behind_read =
      again_then es (is_foreign b) (after_less s) s s (Character 60 ∷ []) (Character c ∷ []) (class_of c) c (less_row es (is_foreign b) s (class_of c) c reads (class-none c no_slash no_bang))
      (plain_row es (is_foreign b) s (class_of c) c (raw_runs s reads) (class-ordinary c (or-second (c == 0 || c == 13) (c == 38) three) (or-second (c == 0 || c == 13 || c == 38) (c == 60) plain)) no_nul)

  end : Open
  end = behind c (behind 60 b)

  ops : List Op
  ops = added 60 b ++ added c (behind 60 b)

  built : after_ops [] (build s false (Character 60 ∷ Character c ∷ []) b) ≡ took (added 60 b ++ added c (behind 60 b)) (parser s false (behind c (behind 60 b))) stop.InputEnd
  unfolding build
  built =
      sym (build_token (Character 60) (Character c ∷ []) s false b [] (behind 60 b) (added 60 b) next.Done (construct_text 60 b [] h refl))
      ∙ sym (build_token (Character c) [] s false (behind 60 b) (added 60 b) (behind c (behind 60 b)) (added 60 b ++ added c (behind 60 b)) next.Done (construct_text c (behind 60 b) (added 60 b) (still_takes 60 b h) no_nul))
      ∙ ap (λ (l : List Op). took l (parser s false (behind c (behind 60 b))) stop.InputEnd) (append-nil (added 60 b ++ added c (behind 60 b)))

  first : take_character es (parser s false b) 60 ≡ took [] (parser (after_less s) false b) stop.InputEnd
  first =
      silent_taken es s b 60 refl (ap (λ (m : Reached). m.tokens) (less_read es (is_foreign b) s reads))
      ∙ ap (λ (m : Reached). took [] (parser m.state false b) stop.InputEnd) (less_read es (is_foreign b) s reads)

  second : take_character es (parser (after_less s) false b) c ≡ took (added 60 b ++ added c (behind 60 b)) (parser s false (behind c (behind 60 b))) stop.InputEnd
  second =
      sym (none_before (take_character es (parser (after_less s) false b) c))
      ∙ taken es (after_less s) b c [] (record { tokens = Character 60 ∷ Character c ∷ []; state = s }) (took (added 60 b ++ added c (behind 60 b)) (parser s false (behind c (behind 60 b))) stop.InputEnd)
      (or-second (c == 0) (c == 13) two) behind_read built

  pub pair_parsed : parse es (parser s false b) (60 ∷ c ∷ []) ≡ record { ops = added 60 b ++ added c (behind 60 b); parser = parser s false (behind c (behind 60 b)); used = 2; stop = stop.InputEnd }
  unfolding parse
  pair_parsed =
      ap (λ k. and_rest k (λ p'. parse es p' (c ∷ []))) first
      ∙ ap (λ k. after_character [] (and_rest k (λ p'. parse es p' []))) second

pair-ok : (keeps space ok : Bool) → ((keeps || space) && ((keeps || false) && ok)) ≡ ((keeps || false) && ok)
pair-ok true space ok = refl
pair-ok false true ok = refl
pair-ok false false ok = refl

pub taken_less : (es : Entities) (text run : List ℕ) (from used c : ℕ) (p p' : Parser) (o o' : List Op) → TakesRuns p → reads_raw p.tokenizer ≡ true → run ≡ 60 ∷ c ∷ [] → is_mark c ≡ false → (c == 47) ≡ false → (c == 33) ≡ false
    → chars (take used text) ≡ chars (take from text) ++ run → o' ≡ o ++ texts (here p.open_state) run → p' ≡ record p { open_state = behind_text run p.open_state }
    → Takes es text from (record { stop = stop.InputEnd; used = used }) p o p' o'
taken_less es text run from used c p p' o o' runs reads two plain no_slash no_bang front inserted done =
    let b = p.open_state in
    let same : p ≡ parser p.tokenizer false b = ap (λ cr. parser p.tokenizer cr b) runs.after_cr in
    let ends : parser p.tokenizer false (behind c (behind 60 b)) ≡ p' =
    ap (λ (ok : Bool). parser p.tokenizer false (record b { frameset_ok = ok })) (pair-ok (keeps_ok (text_rules b)) (is_space c) b.frameset_ok)
    ∙ ap (λ (q : Parser). record q { open_state = behind_text (60 ∷ c ∷ []) b }) (sym same)
    ∙ ap (λ (l : List ℕ). record p { open_state = behind_text l b }) (sym two) ∙ sym done in
    let parsed : parse es p (60 ∷ c ∷ []) ≡ record { ops = texts (here b) (60 ∷ c ∷ []); parser = p'; used = 2; stop = stop.InputEnd } =
    ap (λ (q : Parser). parse es q (60 ∷ c ∷ [])) same ∙ pair_parsed es p.tokenizer b c reads runs.builder plain no_slash no_bang
    ∙ ap (λ (q : Parser). record { ops = texts (here b) (60 ∷ c ∷ []); parser = q; used = 2; stop = stop.InputEnd }) ends in
    takes es text (60 ∷ c ∷ []) from used stop.InputEnd p p' o o' (60, c ∷ [], refl) (front ∙ ap (λ l. chars (take from text) ++ l) two)
    (subst (λ (w : Parsed). IsOver w o 2 p' o' stop.InputEnd) (sym parsed)
    (record { ops = inserted ∙ ap (λ l. o ++ texts (here b) l) two; state = refl; used = refl; at_stop = refl }))
