-- A tag that is parsed at once.
use Rattle.std.proofs.Common.{◌≡◌, ℕ, ◌+◌, ◌-◌, ◌≤◌, ◌==◌, ◌||◌, Bool, true, false, List, [], ◌∷◌, ◌++◌, length, take, drop, refl, sym, ap, ◌∙◌, subst, append_assoc, append-nil, arith, Result, Ok, Err, IfOk}
use Rattle.std.specs.Prelude.{Option, Some, None, if◌then◌else◌}
use Rattle.std.specs.Str.{chars, IsUtf8, IsCharBoundary}
use Rattle.std.proofs.Math.Seq.{take-add}
use Rattle.std.proofs.lemmas.List.{length-append}
use Rattle.std.proofs.lemmas.Str.{chars-append, IsUtf8-take}
use Rattle.html_types.specs.declared.memory.NoMemory.{NoMemory}
use Rattle.html_types.specs.declared.operation.Op.{Op}
use Rattle.html_types.specs.declared.token.Token.{Token}
use Rattle.html_types.specs.declared.state.TokState.{TokState}
use Rattle.html_types.specs.declared.instruction.Stop.{Stop}
use Rattle.html_types.specs.declared.instruction.Stop.TheVariants as stop
use Rattle.html_types.specs.declared.open.Open.{Open}
use Rattle.standard.specs.Entities.{Entities}
use Rattle.standard.specs.Step.{data_state}
use Rattle.standard.specs.Foreign.{is_foreign}
use Rattle.standard.specs.Tokenizer.{Reached, after_tokens, read, feed}
use Rattle.standard.specs.Parser.{Parser, parser, Took, took, after_ops, build, take_character, Parsed, after_character, and_rest, parse}
use Rattle.standard_laws.specs.Laws.{joined, unless_stopped}
use Rattle.tokenizer_laws.proofs.FeedLemmas.{feed-append, onward-one}
use Rattle.standard_laws.proofs.Parse.{parse-append}
use Rattle.tokenizer.specs.Runs.{LeadsTo}
use Rattle.tokenizer.specs.Whole.{has_cr, piece, MakesAlone}
use Rattle.tokenizer.specs.Raw.{MakesFrom}
use Rattle.parse_machine.specs.Machine.{stops}
use Rattle.parse_machine.specs.Runs.{IsSomeText, ReadsTags, Takes, TakesRun}
use Rattle.parse_machine.specs.declared.machine.Ran.{Ran}
use Rattle.parse_machine.proofs.MachineLemmas.{IsOver, one-character, over-more, not_stopped, none-waited, taken-read}

-- ---- characters that make no token

none-first : (xs ys : List Token) → xs ++ ys ≡ [] → xs ≡ []
none-first [] ys e = refl
none-first (x ∷ xs) ys e = cc

none-second : (xs ys : List Token) → xs ++ ys ≡ [] → ys ≡ []
none-second [] ys e = e
none-second (x ∷ xs) ys e = cc

or-first : (a b : Bool) → (a || b) ≡ false → a ≡ false
or-first false b e = refl
or-first true b e = e

or-second : (a b : Bool) → (a || b) ≡ false → b ≡ false
or-second false b e = e
or-second true b e = cc

pub none_before : (k : Took) → after_ops [] k ≡ k
none_before (took ops p s) = refl

-- a character other than a CR, which leads to a state and makes tokens
pub taken : (es : Entities) (s : TokState) (b : Open) (c : ℕ) (o : List Op) (m : Reached) (t : Took) → (c == 13) ≡ false → read es (is_foreign b) s c ≡ m
    → after_ops o (build m.state false m.tokens b) ≡ t → after_ops o (take_character es (parser s false b) c) ≡ t
taken es s b c o m t no_cr reached is =
    let itself : c ≡ (if c == 13 then 10 else c) = rw no_cr refl in
    taken-read es s false b c c o t refl itself
    (ap (λ (r : Reached). after_ops o (build r.state (c == 13) r.tokens b)) reached ∙ ap (λ v. after_ops o (build m.state v m.tokens b)) no_cr ∙ is)

pub silent_taken : (es : Entities) (s : TokState) (b : Open) (c : ℕ) → (c == 13) ≡ false → (read es (is_foreign b) s c).tokens ≡ [] → take_character es (parser s false b) c ≡ took [] (parser (read es (is_foreign b) s c).state false b) stop.InputEnd
unfolding build
silent_taken es s b c no_cr silent =
    sym (none_before (take_character es (parser s false b) c))
    ∙ taken es s b c [] (read es (is_foreign b) s c) (took [] (parser (read es (is_foreign b) s c).state false b) stop.InputEnd) no_cr refl
    (ap (λ (ts : List Token). after_ops [] (build (read es (is_foreign b) s c).state false ts b)) silent)

pub silent_parsed : (es : Entities) (s : TokState) (b : Open) (cs : List ℕ) → has_cr cs ≡ false → (feed es (is_foreign b) s cs).tokens ≡ []
    → parse es (parser s false b) cs ≡ record { ops = []; parser = parser (feed es (is_foreign b) s cs).state false b; used = length cs; stop = stop.InputEnd }
unfolding parse feed
silent_parsed es s b [] no_cr silent = refl
silent_parsed es s b (c ∷ cs) no_cr silent =
    let m = read es (is_foreign b) s c in
    let rest = feed es (is_foreign b) m.state cs in
    ap (λ k. and_rest k (λ p'. parse es p' cs)) (silent_taken es s b c (or-first (c == 13) _ no_cr) (none-first m.tokens rest.tokens silent))
    ∙ ap (after_character []) (silent_parsed es m.state b cs (or-second (c == 13) _ no_cr) (none-second m.tokens rest.tokens silent))

-- ---- the tag

-- what its last character comes to
last_read : (es : Entities) (f : Bool) (s : TokState) (front : List ℕ) (last : ℕ) (r : Reached) → (feed es f s front).tokens ≡ [] → feed es f s (front ++ last ∷ []) ≡ r → read es f (feed es f s front).state last ≡ r
last_read es f s front last r silent whole =
    let m = feed es f s front in
    let now : r ≡ after_tokens m.tokens (read es f m.state last) = sym whole ∙ feed-append es f s front (last ∷ []) ∙ onward-one es f m last in
    sym (none-waited r (read es f m.state last) m.tokens now silent)

cr-front : (front : List ℕ) (last : ℕ) → has_cr (front ++ last ∷ []) ≡ false → has_cr front ≡ false
cr-front [] last e = refl
cr-front (c ∷ cs) last e =
    let first : (c == 13) ≡ false = or-first (c == 13) (has_cr (cs ++ last ∷ [])) e in
    rw first (cr-front cs last (or-second (c == 13) (has_cr (cs ++ last ∷ [])) e))

cr-last : (front : List ℕ) (last : ℕ) → has_cr (front ++ last ∷ []) ≡ false → (last == 13) ≡ false
cr-last [] last e = or-first (last == 13) false e
cr-last (c ∷ cs) last e = cr-last cs last (or-second (c == 13) (has_cr (cs ++ last ∷ [])) e)

over-silent : (es : Entities) (s : TokState) (b : Open) (o : List Op) (cs : List ℕ) → has_cr cs ≡ false → (feed es (is_foreign b) s cs).tokens ≡ []
    → IsOver (parse es (parser s false b) cs) o (length cs) (parser (feed es (is_foreign b) s cs).state false b) o stop.InputEnd
over-silent es s b o cs no_cr silent =
    subst (λ (w : Parsed). IsOver w o (length cs) (parser (feed es (is_foreign b) s cs).state false b) o stop.InputEnd) (sym (silent_parsed es s b cs no_cr silent))
    (record { ops = sym (append-nil o); state = refl; used = refl; at_stop = refl })

over-tag : (es : Entities) (s : TokState) (b : Open) (cs : List ℕ) (t : Token) (o o' : List Op) (p' : Parser) (at : Stop) → MakesFrom es s cs t → has_cr cs ≡ false
    → after_ops o (build data_state false (t ∷ []) b) ≡ took o' p' at → IsOver (parse es (parser s false b) cs) o (length cs) p' o' at
over-tag es s b cs t o o' p' at makes no_cr built =
    let front = makes.front in
    let last = makes.last in
    let split : has_cr (front ++ last ∷ []) ≡ false = ap has_cr (sym makes.split) ∙ no_cr in
    let mid = (feed es (is_foreign b) s front).state in
    let reached : read es (is_foreign b) mid last ≡ record { tokens = t ∷ []; state = data_state } =
    last_read es (is_foreign b) s front last _ (makes.silent (is_foreign b)) (ap (feed es (is_foreign b) s) (sym makes.split) ∙ makes.whole (is_foreign b)) in
    subst (λ (l : List ℕ). IsOver (parse es (parser s false b) l) o (length l) p' o' at) (sym makes.split)
    (over-more es (parser s false b) o front (parser mid false b) o last p' o' at
    (over-silent es s b o front (cr-front front last split) (makes.silent (is_foreign b)))
    (taken es mid b last o (record { tokens = t ∷ []; state = data_state }) (took o' p' at) (cr-last front last split) reached built))

-- so from the data state
from_data : (es : Entities) (cs : List ℕ) (t : Token) → MakesAlone es cs t → MakesFrom es data_state cs t
from_data es cs t alone = record { front = alone.front; last = alone.last; split = alone.split; silent = alone.silent; whole = alone.whole }

pub piece-front : (text : List ℕ) (from end : ℕ) → IsUtf8 text → IsCharBoundary text from → from ≤ end → chars (take end text) ≡ chars (take from text) ++ piece text from end
piece-front text from end u b h =
    let whole : end ≡ from + (end - from) = omega arith in
    ap (λ (n : ℕ). chars (take n text)) whole ∙ ap chars (take-add from (end - from) text) ∙ chars-append (take from text) (take (end - from) (drop from text)) (IsUtf8-take text from u b)

some-split : (cs front : List ℕ) (last : ℕ) → cs ≡ front ++ last ∷ [] → IsSomeText cs
some-split cs [] last e = (last, [], e)
some-split cs (x ∷ xs) last e = (x, xs ++ last ∷ [], e)

-- what was taken of the text is what these characters come to
pub takes : (es : Entities) (text run : List ℕ) (from end : ℕ) (at : Stop) (p p' : Parser) (o o' : List Op) → IsSomeText run → chars (take end text) ≡ chars (take from text) ++ run
    → IsOver (parse es p run) o (length run) p' o' at → Takes es text from (record { stop = at; used = end }) p o p' o'
takes es text run from end at p p' o o' some front over = record { run = run; some = some; front = front; ops = over.ops; state = over.state; used = over.used; stop = over.at_stop }

pub taken_tag : (es : Entities) (text : List ℕ) (from end : ℕ) (at : Stop) (t : Token) (p p' : Parser) (o o' : List Op) → IsUtf8 text → IsCharBoundary text from → from ≤ end
    → ReadsTags p → MakesAlone es (piece text from end) t → has_cr (piece text from end) ≡ false
    → after_ops o (build p.tokenizer p.after_cr (t ∷ []) p.open_state) ≡ took o' p' at → Takes es text from (record { stop = at; used = end }) p o p' o'
taken_tag es text from end at t p p' o o' u b h reads alone no_cr built =
    let same : p ≡ parser data_state false p.open_state = ap (λ s. parser s p.after_cr p.open_state) reads.tokenizer ∙ ap (λ cr. parser data_state cr p.open_state) reads.after_cr in
    takes es text (piece text from end) from end at p p' o o' (some-split (piece text from end) alone.front alone.last alone.split) (piece-front text from end u b h)
    (subst (λ (q : Parser). IsOver (parse es q (piece text from end)) o (length (piece text from end)) p' o' at) (sym same)
    (over-tag es data_state p.open_state (piece text from end) t o o' p' at (from_data es (piece text from end) t alone) no_cr
    (subst (λ (q : Parser). after_ops o (build q.tokenizer q.after_cr (t ∷ []) p.open_state) ≡ took o' p' at) same built)))

-- the end tag of a text that is read up to it
pub taken_raw : (es : Entities) (text : List ℕ) (from end : ℕ) (at : Stop) (t : Token) (p p' : Parser) (o o' : List Op) → IsUtf8 text → IsCharBoundary text from → from ≤ end
    → p.after_cr ≡ false → MakesFrom es p.tokenizer (piece text from end) t → has_cr (piece text from end) ≡ false
    → after_ops o (build data_state p.after_cr (t ∷ []) p.open_state) ≡ took o' p' at → Takes es text from (record { stop = at; used = end }) p o p' o'
taken_raw es text from end at t p p' o o' u b h after makes no_cr built =
    let same : p ≡ parser p.tokenizer false p.open_state = ap (λ cr. parser p.tokenizer cr p.open_state) after in
    takes es text (piece text from end) from end at p p' o o' (some-split (piece text from end) makes.front makes.last makes.split) (piece-front text from end u b h)
    (subst (λ (q : Parser). IsOver (parse es q (piece text from end)) o (length (piece text from end)) p' o' at) (sym same)
    (over-tag es p.tokenizer p.open_state (piece text from end) t o o' p' at makes no_cr
    (ap (λ cr. after_ops o (build data_state cr (t ∷ []) p.open_state)) (sym after) ∙ built)))

-- one character
pub taken_character : (es : Entities) (text : List ℕ) (from end c : ℕ) (at : Stop) (p q p' : Parser) (o n o' : List Op) → chars (take end text) ≡ chars (take from text) ++ c ∷ []
    → q ≡ p → n ≡ o → after_ops n (take_character es q c) ≡ took o' p' at → Takes es text from (record { stop = at; used = end }) p o p' o'
taken_character es text from end c at p q p' o n o' front same none is =
    takes es text (c ∷ []) from end at p p' o o' (c, [], refl) front
    (one-character es p c o o' p' at (ap (λ (l : List Op). after_ops l (take_character es p c)) (sym none) ∙ ap (λ (v : Parser). after_ops n (take_character es v c)) (sym same) ∙ is))

-- ---- behind what is parsed

pub over-taken : (es : Entities) (p0 : Parser) (o0 : List Op) (text : List ℕ) (from : ℕ) (ran : Ran) (p p' : Parser) (o o' : List Op)
    → IsOver (parse es p0 (chars (take from text))) o0 (length (chars (take from text))) p o stop.InputEnd → Takes es text from ran p o p' o'
    → IsOver (parse es p0 (chars (take ran.used text))) o0 (length (chars (take ran.used text))) p' o' ran.stop
over-taken es p0 o0 text from ran p p' o o' over taken =
    let x = chars (take from text) in
    let y = chars (take ran.used text) in
    let r : Parsed = parse es p0 x in
    let q : Parsed = parse es p taken.run in
    let whole : parse es p0 y ≡ joined r q =
    ap (parse es p0) taken.front ∙ parse-append es p0 x taken.run
    ∙ ap (λ v. unless_stopped v r (λ q. parse es q taken.run)) (sym over.at_stop)
    ∙ ap (λ (v : Parser). joined r (parse es v taken.run)) (sym over.state) in
    let long : length y ≡ length x + length taken.run = ap length taken.front ∙ length-append x taken.run in
    subst (λ (w : Parsed). IsOver w o0 (length y) p' o' ran.stop) (sym whole) (record {
      ops = taken.ops ∙ ap (λ l. l ++ q.ops) over.ops ∙ append_assoc o0 r.ops q.ops;
      state = taken.state;
      used = ap (λ n. n + q.used) over.used ∙ ap (λ n. length x + n) taken.used ∙ sym long;
      at_stop = taken.stop;
    })

-- the parser doesn't stop there
pub over-goes_on : (es : Entities) (p0 : Parser) (o0 : List Op) (text : List ℕ) (from : ℕ) (ran : Ran) (p p' : Parser) (o o' : List Op) → stops ran.stop ≡ false
    → IsOver (parse es p0 (chars (take from text))) o0 (length (chars (take from text))) p o stop.InputEnd → Takes es text from ran p o p' o'
    → IsOver (parse es p0 (chars (take ran.used text))) o0 (length (chars (take ran.used text))) p' o' stop.InputEnd
over-goes_on es p0 o0 text from ran p p' o o' going over taken =
    subst (λ (s : Stop). IsOver (parse es p0 (chars (take ran.used text))) o0 (length (chars (take ran.used text))) p' o' s) (not_stopped ran.stop going)
    (over-taken es p0 o0 text from ran p p' o o' over taken)

-- nothing more was taken
pub over-same : {r : Parsed} {o0 : List Op} {n : ℕ} {p p' : Parser} {o o' : List Op} {s : Stop} → p' ≡ p → o' ≡ o → IsOver r o0 n p o s → IsOver r o0 n p' o' s
over-same {r} {o0} {n} {p} {p'} {o} {o'} {s} e f over = record { ops = f ∙ over.ops; state = e ∙ over.state; used = over.used; at_stop = over.at_stop }

pub no_some : (r : Option Ran) → ((ran : Ran) → r ≡ Some ran → ⊥) → r ≡ None
no_some None h = refl
no_some (Some ran) h = absurd (h ran refl)

-- ---- characters that the tokenizer only adds to what it holds

pub appended : (text : List ℕ) (from end : ℕ) (p : Parser) (s : TokState) (o : List Op) → IsUtf8 text → IsCharBoundary text from → from ≤ end → p.after_cr ≡ false
    → LeadsTo p.tokenizer (piece text from end) s → has_cr (piece text from end) ≡ false → TakesRun text from end p o (record p { tokenizer = s }) o
appended text from end p s o u b h after leads no_cr = record {
  run = piece text from end;
  added = [];
  front = piece-front text from end u b h;
  ops = sym (append-nil o);
  parsed = λ es.
      let q : Parser = parser p.tokenizer false p.open_state in
      let same : p ≡ q = ap (λ cr. parser p.tokenizer cr p.open_state) after in
      let run : List ℕ = piece text from end in
      let fed : feed es (is_foreign p.open_state) p.tokenizer run ≡ record { tokens = []; state = s } = leads es (is_foreign p.open_state) in
      ap (λ (v : Parser). parse es v run) same
      ∙ silent_parsed es p.tokenizer p.open_state run no_cr (ap (λ (m : Reached). m.tokens) fed)
      ∙ ap (λ (m : Reached). record { ops = []; parser = parser m.state false p.open_state; used = length run; stop = stop.InputEnd }) fed
      ∙ ap (λ cr. record { ops = []; parser = parser s cr p.open_state; used = length run; stop = stop.InputEnd }) (sym after);
}

-- the same of what a function came to
pub appended-if : (text : List ℕ) (from : ℕ) (p : Parser) (s : TokState) (r : Result ℕ NoMemory) → IsUtf8 text → IsCharBoundary text from → p.after_cr ≡ false
    → IfOk r (λ end. from ≤ end) → IfOk r (λ end. LeadsTo p.tokenizer (piece text from end) s) → IfOk r (λ end. has_cr (piece text from end) ≡ false)
    → IfOk r (λ end. (o : List Op) → TakesRun text from end p o (record p { tokenizer = s }) o)
appended-if text from p s (Ok end) u b after onward leads no_cr = λ o. appended text from end p s o u b onward after leads no_cr
appended-if text from p s (Err e) u b after onward leads no_cr = tt
