-- A named character reference that is parsed at once.
use Rattle.std.proofs.Common.{◌≡◌, ℕ, suc, ◌+◌, ◌≤◌, ◌==◌, ◌||◌, Bool, true, false, List, [], ◌∷◌, ◌++◌, ◌&&◌, length, take, drop, refl, sym, ap, ◌∙◌, subst, append_assoc, append-nil, arith}
use Rattle.std.specs.Prelude.{map, if◌then◌else◌, Option, Some, None, Result, Ok, Err, IfOk, IfSome}
use Rattle.std.specs.List.{list_any}
use Rattle.std.specs.Str.{chars, IsUtf8, IsCharBoundary}
use Rattle.std.proofs.lemmas.Bool.{or_from}
use Rattle.std.proofs.lemmas.List.{length-append}
use Rattle.std.proofs.lemmas.List.Folds.{list_any-append}
use Rattle.html_types.specs.declared.memory.NoMemory.{NoMemory}
use Rattle.html_types.specs.declared.operation.Op.{Op}
use Rattle.html_types.specs.declared.token.Token.{Token}
use Rattle.html_types.specs.declared.token.Token.TheVariants.{Character}
use Rattle.html_types.specs.declared.state.TokState.{TokState}
use Rattle.html_types.specs.declared.instruction.Next.TheVariants as next
use Rattle.html_types.specs.declared.instruction.Stop.TheVariants as stop
use Rattle.html_types.specs.declared.open.Open.{Open}
use Rattle.standard.specs.Entities.{Entities}
use Rattle.standard.specs.Instructions.{here, texts, all_space}
use Rattle.standard.specs.WhiteSpace.{is_space}
use Rattle.standard.specs.Step.{data_state}
use Rattle.standard.specs.Foreign.{is_foreign}
use Rattle.standard.specs.Tokenizer.{Reached, after_tokens, read, feed}
use Rattle.standard.specs.Parser.{Parser, parser, Took, took, after_ops, build, built, take_character, Parsed, and_rest, parse}
use Rattle.standard_laws.specs.Laws.{joined, unless_stopped}
use Rattle.standard_laws.proofs.Parse.{parse-append}
use Rattle.builder_state.specs.Texts.{text_rules, keeps_ok, TakesText, behind_text}
use Rattle.tokenizer.specs.Whole.{has_cr, piece}
use Rattle.tokenizer.specs.Reference.{Refers, IsFirst, RefersBefore, RefersIn, as_read}
use Rattle.tokenizer.proofs.OpenLemmas.{chars_behind}
use Rattle.parse_machine.specs.Runs.{IsSomeText, InsertsText, Inserts, Ahead, ReadsTags, Takes}
use Rattle.parse_machine.specs.declared.machine.Ran.{Ran}
use Rattle.parse_machine.proofs.Dispatcher.{same_foreign}
use Rattle.parse_machine.proofs.MachineLemmas.{after_ops-after, build_token}
use Rattle.parse_machine.proofs.Runs.{behind, added, construct_text, ok-behind, still_takes, nothing_behind}
use Rattle.parse_machine.proofs.Tags.{silent_parsed, none_before, piece-front}

-- ---- characters that are inserted before other tokens

has_nul : List ℕ → Bool
has_nul us = list_any (λ c. c == 0) us

or-first : (a b : Bool) → (a || b) ≡ false → a ≡ false
or-first false b e = refl
or-first true b e = e

or-second : (a b : Bool) → (a || b) ≡ false → b ≡ false
or-second false b e = e
or-second true b e = cc

none_behind : (b : Open) → b ≡ behind_text [] b
none_behind b = ap (λ (ok : Bool). record b { frameset_ok = ok }) (nothing_behind (keeps_ok (text_rules b)) b.frameset_ok)

built_characters : (s : TokState) (cr : Bool) (us : List ℕ) (ts : List Token) (b : Open) → TakesText b → list_any (λ c. c == 0) us ≡ false
    → build s cr (map Character us ++ ts) b ≡ after_ops (texts (here b) us) (build s cr ts (behind_text us b))
built_characters s cr [] ts b h no_nul = sym (none_before (build s cr ts b)) ∙ ap (λ (v : Open). after_ops [] (build s cr ts v)) (none_behind b)
built_characters s cr (u ∷ us) ts b h no_nul =
    let rest : List Token = map Character us ++ ts in
    let one : after_ops (added u b) (build s cr rest (behind u b)) ≡ after_ops [] (build s cr (Character u ∷ rest) b) =
    build_token (Character u) rest s cr b [] (behind u b) (added u b) next.Done (construct_text u b [] h (or-first (u == 0) _ no_nul)) in
    sym (none_before (build s cr (Character u ∷ rest) b))
    ∙ sym one
    ∙ ap (after_ops (added u b)) (built_characters s cr us ts (behind u b) (still_takes u b h) (or-second (u == 0) _ no_nul))
    ∙ after_ops-after (added u b) (texts (here b) us) (build s cr ts (behind_text us (behind u b)))
    ∙ ap (λ (ok : Bool). after_ops (texts (here b) (u ∷ us)) (build s cr ts (record b { frameset_ok = ok }))) (ok-behind (keeps_ok (text_rules b)) (all_space us) (is_space u) b.frameset_ok)

-- the character behind a reference
taken_behind : (es : Entities) (s : TokState) (b : Open) (us : List ℕ) (c : ℕ) → read es (is_foreign b) s (as_read c) ≡ after_tokens (map Character us) (read es (is_foreign b) data_state (as_read c)) → TakesText b → list_any (λ c. c == 0) us ≡ false
    → take_character es (parser s false b) c ≡ after_ops (texts (here b) us) (take_character es (parser data_state false (behind_text us b)) c)
unfolding take_character
taken_behind es s b us c reads h no_nul = by (c == 13) reads
  where
    Reads : ℕ → Type 0
    Reads d = read es (is_foreign b) s d ≡ after_tokens (map Character us) (read es (is_foreign b) data_state d)

    at : (cr : Bool) (d : ℕ) → Reads d → built (parser s false b) cr (read es (is_foreign b) s d) ≡ after_ops (texts (here b) us) (built (parser data_state false (behind_text us b)) cr (read es (is_foreign (behind_text us b)) data_state d))
    at cr d is =
        let m : Reached = read es (is_foreign b) data_state d in
        ap (λ (m : Reached). build m.state cr m.tokens b) is
        ∙ built_characters m.state cr us m.tokens b h no_nul
        ∙ ap (λ v. after_ops (texts (here b) us) (built (parser data_state false (behind_text us b)) cr (read es v data_state d))) (sym (same_foreign (behind_text us b) b refl))

    by : (v : Bool) → Reads (if v then 10 else c) → elim v [ true ↦ built (parser s false b) true (read es (is_foreign b) s 10) | false ↦ built (parser s false b) false (read es (is_foreign b) s c) ]
        ≡ after_ops (texts (here b) us) (elim v [ true ↦ built (parser data_state false (behind_text us b)) true (read es (is_foreign (behind_text us b)) data_state 10) | false ↦ built (parser data_state false (behind_text us b)) false (read es (is_foreign (behind_text us b)) data_state c) ])
    by true is = at true 10 is
    by false is = at false c is

before : List Op → Parsed → Parsed
before x q = record q { ops = x ++ q.ops }

rest-after : (x : List Op) (k : Took) (f : Parser → Parsed) → and_rest (after_ops x k) f ≡ before x (and_rest k f)
unfolding before
rest-after x (took ops p stop.InputEnd) f = ap (λ (l : List Op). record { ops = l; parser = (f p).parser; used = suc (f p).used; stop = (f p).stop }) (append_assoc x ops (f p).ops)
rest-after x (took ops p _) f = refl

-- ---- the reference

inserts_reference : (es : Entities) (b : Open) (cs us tail : List ℕ) → ((c : ℕ) → IsFirst c tail → RefersBefore es (as_read c) cs us) → has_cr cs ≡ false → TakesText b → list_any (λ c. c == 0) us ≡ false
    → InsertsText es cs (parser data_state false b) (texts (here b) us) (parser data_state false (behind_text us b)) tail
unfolding parse before
inserts_reference es b cs us tail refers no_cr h no_nul c rest first =
    let r = refers c first in
    let s = (feed es (is_foreign b) data_state cs).state in
    let p' = parser data_state false (behind_text us b) in
    let mid : Parsed = record { ops = []; parser = parser s false b; used = length cs; stop = stop.InputEnd } in
    parse-append es (parser data_state false b) cs (c ∷ rest)
    ∙ ap (λ (r : Parsed). unless_stopped r.stop r (λ q. parse es q (c ∷ rest))) (silent_parsed es data_state b cs no_cr (r.silent (is_foreign b)))
    ∙ ap (λ (k : Took). joined mid (and_rest k (λ q. parse es q rest))) (taken_behind es s b us c (r.behind (is_foreign b)) h no_nul)
    ∙ ap (joined mid) (rest-after (texts (here b) us) (take_character es p' c) (λ q. parse es q rest))

pub taken_reference : (es : Entities) (text us : List ℕ) (from end : ℕ) (p p' : Parser) (o o' : List Op) → IsUtf8 text → IsCharBoundary text from → from ≤ end
    → ReadsTags p → TakesText p.open_state → RefersIn es text from end us → has_cr (piece text from end) ≡ false → list_any (λ c. c == 0) us ≡ false
    → o' ≡ o ++ texts (here p.open_state) us → p' ≡ record p { open_state = behind_text us p.open_state } → Inserts es text from end p o p' o'
taken_reference es text us from end p p' o o' u b h reads takes refers no_cr no_nul inserted done =
    let open_now = p.open_state in
    let same : p ≡ parser data_state false open_now = ap (λ s. parser s p.after_cr open_now) reads.tokenizer ∙ ap (λ cr. parser data_state cr open_now) reads.after_cr in
    let now : p' ≡ parser data_state false (behind_text us open_now) =
    done ∙ ap (λ (q : Parser). record q { open_state = behind_text us open_now }) same in
    record {
      run = piece text from end;
      added = texts (here open_now) us;
      front = piece-front text from end u b h;
      ops = inserted;
      parsed = subst (λ (q : Parser). InsertsText es (piece text from end) q (texts (here open_now) us) p' (chars (drop end text))) (sym same)
          (subst (λ (q : Parser). InsertsText es (piece text from end) (parser data_state false open_now) (texts (here open_now) us) q (chars (drop end text))) (sym now)
          (inserts_reference es open_now (piece text from end) us (chars (drop end text)) refers no_cr takes no_nul));
    }

-- a reference that stands for the same characters before each character
pub refers_any : (es : Entities) (text us : List ℕ) (from end : ℕ) → Refers es (piece text from end) us → RefersIn es text from end us
refers_any es text us from end refers c first = record { silent = refers.silent; behind = λ foreign. refers.behind foreign (as_read c) }

-- ---- what is inserted in two parts

all_space-append : (us vs : List ℕ) → all_space (us ++ vs) ≡ (all_space us && all_space vs)
all_space-append [] vs = refl
all_space-append (u ∷ us) vs = ap (λ (v : Bool). is_space u && v) (all_space-append us vs) ∙ sym (and_assoc (is_space u) (all_space us) (all_space vs))
  where
    and_assoc : (a b c : Bool) → ((a && b) && c) ≡ (a && (b && c))
    and_assoc true b c = refl
    and_assoc false b c = refl

pub behind_both : (us vs : List ℕ) (b : Open) → behind_text vs (behind_text us b) ≡ behind_text (us ++ vs) b
behind_both us vs b =
    ap (λ (ok : Bool). record b { frameset_ok = ok })
    (ok-behind (keeps_ok (text_rules b)) (all_space vs) (all_space us) b.frameset_ok ∙ ap (λ (v : Bool). (keeps_ok (text_rules b) || v) && b.frameset_ok) (sym (all_space-append us vs)))

pub no_nul_both : (us vs : List ℕ) → list_any (λ c. c == 0) us ≡ false → list_any (λ c. c == 0) vs ≡ false → list_any (λ c. c == 0) (us ++ vs) ≡ false
no_nul_both us vs h k = list_any-append (λ c. c == 0) us vs ∙ or_from _ _ h k

-- ---- some references

pub none_ahead : (es : Entities) (text : List ℕ) (from : ℕ) (p : Parser) (o : List Op) → Ahead es text from from p o p o
none_ahead es text from p o = record {
  inserts = record {
    run = [];
    added = [];
    front = sym (append-nil (chars (take from text)));
    ops = sym (append-nil o);
    parsed = λ c rest _. let q : Parsed = parse es p (c ∷ rest) in ap (λ (n : ℕ). record q { used = n }) (let e : q.used ≡ 0 + q.used = omega arith in e);
  };
  at_end = λ _. refl;
  same = λ _. refl;
  none_added = λ _. refl;
}

inserts-any : (es : Entities) (run cs tail behind : List ℕ) (p p1 : Parser) (added : List Op) → InsertsText es run p added p1 tail → tail ≡ cs ++ behind → (c : ℕ) (rest : List ℕ) → IsFirst c behind
    → parse es p (run ++ (cs ++ c ∷ rest)) ≡ joined (record { ops = added; parser = p1; used = length run; stop = stop.InputEnd }) (parse es p1 (cs ++ c ∷ rest))
inserts-any es run [] tail behind p p1 added h e c rest first = h c rest (first.0, e ∙ first.1)
inserts-any es run (x ∷ xs) tail behind p p1 added h e c rest first = h x (xs ++ c ∷ rest) (xs ++ behind, e)

pub inserts-both : (es : Entities) (text : List ℕ) (from mid end : ℕ) (p p1 p2 : Parser) (o o1 o2 : List Op) → IsUtf8 text → IsCharBoundary text mid → IsCharBoundary text end → Inserts es text from mid p o p1 o1 → Inserts es text mid end p1 o1 p2 o2 → Inserts es text from end p o p2 o2
inserts-both es text from mid end p p1 p2 o o1 o2 u b k first second = record {
  run = first.run ++ second.run;
  added = first.added ++ second.added;
  front = second.front ∙ ap (λ l. l ++ second.run) first.front ∙ append_assoc (chars (take from text)) first.run second.run;
  ops = second.ops ∙ ap (λ l. l ++ second.added) first.ops ∙ append_assoc o first.added second.added;
  parsed = λ c rest next.
      let q : Parsed = parse es p2 (c ∷ rest) in
      let long : length first.run + (length second.run + q.used) ≡ length (first.run ++ second.run) + q.used =
      let n = length-append first.run second.run in omega (arith, n) in
      ap (parse es p) (append_assoc first.run second.run (c ∷ rest))
      ∙ inserts-any es first.run second.run (chars (drop mid text)) (chars (drop end text)) p p1 first.added first.parsed (chars_behind text second.run mid end u b k second.front) c rest next
      ∙ ap (joined (record { ops = first.added; parser = p1; used = length first.run; stop = stop.InputEnd })) (second.parsed c rest next)
      ∙ ap (λ (l : List Op). record { ops = l; parser = q.parser; used = length first.run + (length second.run + q.used); stop = q.stop }) (sym (append_assoc first.added second.added q.ops))
      ∙ ap (λ (n : ℕ). record { ops = (first.added ++ second.added) ++ q.ops; parser = q.parser; used = n; stop = q.stop }) long;
}

-- ---- what is taken behind them

pub ahead-takes : (es : Entities) (text : List ℕ) (from start : ℕ) (ran : Ran) (p p1 p2 : Parser) (o o1 o2 : List Op) → IsUtf8 text → IsCharBoundary text start → IsCharBoundary text ran.used → Inserts es text from start p o p1 o1 → Takes es text start ran p1 o1 p2 o2
    → Takes es text from ran p o p2 o2
ahead-takes es text from start ran p p1 p2 o o1 o2 u b k ahead taken =
    let c = taken.some.0 in
    let rest = taken.some.1 in
    let is = taken.some.2 in
    let q : Parsed = parse es p1 taken.run in
    let first : IsFirst c (chars (drop start text)) =
    (rest ++ chars (drop ran.used text), chars_behind text taken.run start ran.used u b k taken.front ∙ ap (λ (l : List ℕ). l ++ chars (drop ran.used text)) is) in
    let whole : parse es p (ahead.run ++ taken.run) ≡ joined (record { ops = ahead.added; parser = p1; used = length ahead.run; stop = stop.InputEnd }) q =
    ap (λ (l : List ℕ). parse es p (ahead.run ++ l)) is ∙ ahead.parsed c rest first
    ∙ ap (λ (l : List ℕ). joined (record { ops = ahead.added; parser = p1; used = length ahead.run; stop = stop.InputEnd }) (parse es p1 l)) (sym is) in
    record {
      run = ahead.run ++ taken.run;
      some = some-behind ahead.run taken.run taken.some;
      front = taken.front ∙ ap (λ l. l ++ taken.run) ahead.front ∙ append_assoc (chars (take from text)) ahead.run taken.run;
      ops = taken.ops ∙ ap (λ l. l ++ q.ops) ahead.ops ∙ append_assoc o ahead.added q.ops ∙ ap (λ (r : Parsed). o ++ r.ops) (sym whole);
      state = taken.state ∙ ap (λ (r : Parsed). r.parser) (sym whole);
      used = ap (λ (r : Parsed). r.used) whole ∙ ap (λ (n : ℕ). length ahead.run + n) taken.used ∙ sym (length-append ahead.run taken.run);
      stop = taken.stop ∙ ap (λ (r : Parsed). r.stop) (sym whole);
    }
  where
    some-behind : (xs ys : List ℕ) → IsSomeText ys → IsSomeText (xs ++ ys)
    some-behind [] ys s = s
    some-behind (x ∷ xs) ys s = (x, xs ++ ys, refl)

pub ahead-takes_any : (es : Entities) (text : List ℕ) (from start : ℕ) (r : Result (Option Ran) NoMemory) (p p1 p2 : Parser) (o o1 o2 : List Op) → IsUtf8 text → IsCharBoundary text start
    → IfOk r (λ (t : Option Ran). IfSome t (λ (ran : Ran). IsCharBoundary text ran.used)) → Inserts es text from start p o p1 o1
    → IfOk r (λ (t : Option Ran). IfSome t (λ (ran : Ran). Takes es text start ran p1 o1 p2 o2)) → IfOk r (λ (t : Option Ran). IfSome t (λ (ran : Ran). Takes es text from ran p o p2 o2))
ahead-takes_any es text from start (Ok (Some ran)) p p1 p2 o o1 o2 u b k ahead taken = ahead-takes es text from start ran p p1 p2 o o1 o2 u b k ahead taken
ahead-takes_any es text from start (Ok None) p p1 p2 o o1 o2 u b k ahead taken = taken
ahead-takes_any es text from start (Err e) p p1 p2 o o1 o2 u b k ahead taken = taken
