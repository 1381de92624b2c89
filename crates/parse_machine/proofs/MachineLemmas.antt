-- What the machine's loops do, over plain variables.
use Rattle.std.proofs.Common.{◌≡◌, ℕ, ◌+◌, ◌==◌, ◌&&◌, Bool, true, false, List, [], ◌∷◌, ◌++◌, length, take, drop, refl, sym, ap, ◌∙◌, subst, append_assoc, append-nil, arith}
use Rattle.std.specs.Str.{chars, IsUtf8, IsCharBoundary}
use Rattle.std.proofs.Math.Seq.{take-append_seam, take-length}
use Rattle.std.proofs.lemmas.Str.{chars-append, IsUtf8-take}
use Rattle.std.specs.Prelude.{if◌then◌else◌}
use Rattle.std.proofs.lemmas.List.{length-append, take-append-drop}
use Rattle.html_types.specs.declared.operation.Op.{Op}
use Rattle.html_types.specs.declared.token.Token.{Token}
use Rattle.html_types.specs.declared.state.TokState.{TokState}
use Rattle.html_types.specs.declared.operation.NodeId.{NodeId}
use Rattle.html_types.specs.declared.instruction.Next.{Next}
use Rattle.html_types.specs.declared.instruction.Next.TheVariants as next
use Rattle.html_types.specs.declared.instruction.TokenizerSwitch.{TokenizerSwitch}
use Rattle.html_types.specs.declared.instruction.Finish.{Finish}
use Rattle.html_types.specs.declared.instruction.Finish.TheVariants as finale
use Rattle.html_types.specs.declared.instruction.Stop.{Stop}
use Rattle.html_types.specs.declared.instruction.Stop.TheVariants as stop
use Rattle.html_types.specs.declared.open.Open.{Open}
use Rattle.standard.specs.Entities.{Entities}
use Rattle.standard.specs.Foreign.{is_foreign}
use Rattle.standard.specs.Rules.{Answer, answer, construct}
use Rattle.html_types.specs.declared.token.Token.TheVariants.{Character}
use Rattle.html_types.specs.declared.class.Class.{Class}
use Rattle.standard.specs.Class.{class_of}
use Rattle.standard.specs.Step.{emit}
use Rattle.standard.specs.Tokenizer.{Reached, after_tokens, row, read, read_end}
use Rattle.tokenizer_laws.proofs.SettleLemmas.{reading-emit}
use Rattle.standard.specs.Parser.{Parser, parser, read_as, Took, took, after_ops, build_on, build, built, take_character, finish, Finished, after_all, build_end_on, build_end, Parsed, and_rest, parse}
use Rattle.standard_laws.specs.Laws.{joined, unless_stopped}
use Rattle.rule_laws.proofs.Framing.{construct-framed}
use Rattle.standard_laws.proofs.Parse.{parse-append}
use Rattle.html_types.specs.declared.ending.Ending.{Ending}
use Rattle.html_types.specs.declared.ending.Ending.TheVariants as ending
use Rattle.html_types.specs.declared.ending.Why.{Why}
use Rattle.core_definitions.specs.Batches.{Batch, refusal_batch, end_batch, over_with, result_at}
use Rattle.parse_machine.specs.declared.end.End.{End}
use Rattle.parse_machine.specs.declared.end.End.TheVariants as end
use Rattle.parse_machine.specs.Machine.{WentTo, EndedTo, finished_as, stops, RanAs, EndsAs}
use Rattle.parse_machine.specs.declared.process.Went.{Went}
use Rattle.parse_machine.specs.declared.process.Went.TheVariants as went
use Rattle.parse_machine.specs.declared.process.Went.TheVariants.{AllUsed}
use Rattle.parse_machine.specs.declared.process.Ended.TheVariants as ended
use Rattle.parse_machine.specs.Ends.{result_of}

-- ---- tokens

pub after_ops-after : (p q : List Op) (k : Took) → after_ops p (after_ops q k) ≡ after_ops (p ++ q) k
after_ops-after p q (took ops m s) = ap (λ o. took o m s) (sym (append_assoc p q ops))

-- a token that was processed, and those behind it
pub build_token : (t : Token) (ts : List Token) (s : TokState) (cr : Bool) (b : Open) (o : List Op) (b' : Open) (o' : List Op) (n : Next)
    → answer b' o' n ≡ construct t b o
    → after_ops o' (build_on s cr t b' (λ s'. build s' cr ts b') n) ≡ after_ops o (build s cr (t ∷ ts) b)
unfolding build
build_token t ts s cr b o b' o' n e =
    let on : Answer → Took = λ a. after_ops a.ops (build_on s cr t a.open_state (λ s'. build s' cr ts a.open_state) a.next) in
    ap on e ∙ ap on (construct-framed t b o)
    ∙ sym (after_ops-after o (construct t b []).ops (build_on s cr t (construct t b []).open_state (λ s'. build s' cr ts (construct t b []).open_state) (construct t b []).next))

after_all-after : (p q : List Op) (f : Finished) → after_all p (after_all q f) ≡ after_all (p ++ q) f
after_all-after p q f = ap (λ o. record f { ops = o }) (sym (append_assoc p q f.ops))

pub build_end_token : (t : Token) (ts : List Token) (s : TokState) (cr : Bool) (b : Open) (o : List Op) (b' : Open) (o' : List Op) (n : Next)
    → answer b' o' n ≡ construct t b o
    → after_all o' (build_end_on s cr b' (build_end s cr ts b') n) ≡ after_all o (build_end s cr (t ∷ ts) b)
unfolding build_end
build_end_token t ts s cr b o b' o' n e =
    let on : Answer → Finished = λ a. after_all a.ops (build_end_on s cr a.open_state (build_end s cr ts a.open_state) a.next) in
    ap on e ∙ ap on (construct-framed t b o)
    ∙ sym (after_all-after o (construct t b []).ops (build_end_on s cr (construct t b []).open_state (build_end s cr ts (construct t b []).open_state) (construct t b []).next))

-- the same, by what comes next: mostly the next token
abbrev pub goes_on : Next → Bool
goes_on (next.SwitchTokenizer r) = false
goes_on (next.Script i) = false
goes_on next.Deep = false
goes_on _ = true

rests : (s : TokState) (cr : Bool) (t : Token) (b : Open) (rest : TokState → Took) (x : Next) → goes_on x ≡ true → rest s ≡ build_on s cr t b rest x
rests s cr t b rest (next.SwitchTokenizer r) e = cc
rests s cr t b rest (next.Script i) e = cc
rests s cr t b rest next.Deep e = cc
rests s cr t b rest _ e = refl

pub goes_on_else : (n : Next) → ((r : TokenizerSwitch) → n ≡ next.SwitchTokenizer r → ⊥) → ((i : NodeId) → n ≡ next.Script i → ⊥) → (n ≡ next.Deep → ⊥) → goes_on n ≡ true
goes_on_else (next.SwitchTokenizer r) a b c = absurd (a r refl)
goes_on_else (next.Script i) a b c = absurd (b i refl)
goes_on_else next.Deep a b c = absurd (c refl)
goes_on_else _ a b c = refl

pub went_on : (t : Token) (cr : Bool) (m m' : Reached) (b b' : Open) (o o' : List Op) (n : Next) → answer b' o' n ≡ construct t b o → goes_on n ≡ true
    → m' ≡ m → WentTo cr m' b' o' went.On ≡ after_ops o (build m.state cr (t ∷ m.tokens) b)
went_on t cr m m' b b' o o' n e is same =
    ap (λ (v : Reached). WentTo cr v b' o' went.On) same
    ∙ ap (λ k. after_ops o' k) (rests m.state cr t b' (λ s'. build s' cr m.tokens b') n is)
    ∙ build_token t m.tokens m.state cr b o b' o' n e

pub went_switched : (t : Token) (cr : Bool) (m m' : Reached) (b b' : Open) (o o' : List Op) (n : Next) (r : TokenizerSwitch) (s' : TokState) → answer b' o' n ≡ construct t b o → n ≡ next.SwitchTokenizer r
    → s' ≡ read_as r t → m'.tokens ≡ m.tokens → m'.state ≡ s' → WentTo cr m' b' o' went.On ≡ after_ops o (build m.state cr (t ∷ m.tokens) b)
went_switched t cr m m' b b' o o' n r s' e is read tokens state =
    ap (λ ts. after_ops o' (build m'.state cr ts b')) tokens
    ∙ ap (λ v. after_ops o' (build v cr m.tokens b')) (state ∙ read)
    ∙ ap (λ v. after_ops o' (build_on m.state cr t b' (λ s'. build s' cr m.tokens b') v)) (sym is)
    ∙ build_token t m.tokens m.state cr b o b' o' n e

halted : Next → Stop
halted (next.Script i) = stop.Script i
halted _ = stop.Deep

is_halt : Next → Bool
is_halt (next.Script i) = true
is_halt next.Deep = true
is_halt _ = false

halts : (s : TokState) (cr : Bool) (t : Token) (b : Open) (o : List Op) (rest : TokState → Took) (x : Next) → is_halt x ≡ true
    → took o (parser s cr b) (halted x) ≡ after_ops o (build_on s cr t b rest x)
unfolding is_halt halted
halts s cr t b o rest (next.Script i) e = ap (λ l. took l (parser s cr b) (stop.Script i)) (sym (append-nil o))
halts s cr t b o rest next.Deep e = ap (λ l. took l (parser s cr b) stop.Deep) (sym (append-nil o))
halts s cr t b o rest _ e = absurd (cc)

went_at : (t : Token) (cr : Bool) (m m' : Reached) (b b' : Open) (o o' : List Op) (n x : Next) → answer b' o' n ≡ construct t b o → n ≡ x → is_halt x ≡ true
    → m' ≡ m → WentTo cr m' b' o' (went.At (halted x)) ≡ after_ops o (build m.state cr (t ∷ m.tokens) b)
went_at t cr m m' b b' o o' n x e is g same =
    ap (λ (v : Reached). WentTo cr v b' o' (went.At (halted x))) same
    ∙ halts m.state cr t b' o' (λ s'. build s' cr m.tokens b') x g
    ∙ ap (λ v. after_ops o' (build_on m.state cr t b' (λ s'. build s' cr m.tokens b') v)) (sym is)
    ∙ build_token t m.tokens m.state cr b o b' o' n e

pub went_script : (t : Token) (cr : Bool) (m m' : Reached) (b b' : Open) (o o' : List Op) (n : Next) (i : NodeId) → answer b' o' n ≡ construct t b o → n ≡ next.Script i
    → m' ≡ m → WentTo cr m' b' o' (went.At (stop.Script i)) ≡ after_ops o (build m.state cr (t ∷ m.tokens) b)
unfolding is_halt halted
went_script t cr m m' b b' o o' n i e is same = went_at t cr m m' b b' o o' n (next.Script i) e is refl same

pub went_deep : (t : Token) (cr : Bool) (m m' : Reached) (b b' : Open) (o o' : List Op) (n : Next) → answer b' o' n ≡ construct t b o → n ≡ next.Deep
    → m' ≡ m → WentTo cr m' b' o' (went.At stop.Deep) ≡ after_ops o (build m.state cr (t ∷ m.tokens) b)
unfolding is_halt halted
went_deep t cr m m' b b' o o' n e is same = went_at t cr m m' b b' o o' n next.Deep e is refl same

pub all_used : (cr : Bool) (m m' : Reached) (b : Open) (o : List Op) → m.tokens ≡ [] → m' ≡ m → WentTo cr m' b o AllUsed ≡ after_ops o (build m.state cr m.tokens b)
unfolding build
all_used cr m m' b o e same =
    ap (λ (v : Reached). WentTo cr v b o AllUsed) same
    ∙ ap (λ l. took l (parser m.state cr b) stop.InputEnd) (sym (append-nil o))
    ∙ ap (λ ts. after_ops o (build m.state cr ts b)) (sym e)

-- ---- the last tokens

pub none_last : (cr : Bool) (m m' : Reached) (b : Open) (o : List Op) → m.tokens ≡ [] → m'.state ≡ m.state → EndedTo cr m' b o (ended.At finale.Finished) ≡ after_all o (build_end m.state cr m.tokens b)
unfolding build_end
none_last cr m m' b o e same =
    ap (λ s. finished_as o (parser s cr b) finale.Finished) same
    ∙ ap (λ l. finished_as l (parser m.state cr b) finale.Finished) (sym (append-nil o))
    ∙ ap (λ ts. after_all o (build_end m.state cr ts b)) (sym e)

abbrev pub ends_on : Next → Bool
ends_on next.Finished = false
ends_on next.Deep = false
ends_on _ = true

rests_end : (s : TokState) (cr : Bool) (b : Open) (rest : Finished) (x : Next) → ends_on x ≡ true → rest ≡ build_end_on s cr b rest x
rests_end s cr b rest next.Finished e = cc
rests_end s cr b rest next.Deep e = cc
rests_end s cr b rest _ e = refl

pub ends_on_else : (n : Next) → (n ≡ next.Finished → ⊥) → (n ≡ next.Deep → ⊥) → ends_on n ≡ true
ends_on_else next.Finished a b = absurd (a refl)
ends_on_else next.Deep a b = absurd (b refl)
ends_on_else _ a b = refl

pub ended_on : (t : Token) (cr : Bool) (m m' : Reached) (b b' : Open) (o o' : List Op) (n : Next) → answer b' o' n ≡ construct t b o → ends_on n ≡ true
    → m' ≡ m → EndedTo cr m' b' o' ended.On ≡ after_all o (build_end m.state cr (t ∷ m.tokens) b)
ended_on t cr m m' b b' o o' n e is same =
    ap (λ (v : Reached). EndedTo cr v b' o' ended.On) same
    ∙ ap (λ f. after_all o' f) (rests_end m.state cr b' (build_end m.state cr m.tokens b') n is)
    ∙ build_end_token t m.tokens m.state cr b o b' o' n e

-- how the end of the input ends at what comes next
abbrev pub last_of : Next → Finish
last_of next.Deep = finale.Deep
last_of _ = finale.Finished

is_last : Next → Bool
is_last next.Finished = true
is_last next.Deep = true
is_last _ = false

finishes : (s : TokState) (cr : Bool) (b : Open) (o : List Op) (rest : Finished) (x : Next) → is_last x ≡ true
    → finished_as o (parser s cr b) (last_of x) ≡ after_all o (build_end_on s cr b rest x)
unfolding is_last
finishes s cr b o rest next.Finished e = ap (λ l. finished_as l (parser s cr b) finale.Finished) (sym (append-nil o))
finishes s cr b o rest next.Deep e = ap (λ l. finished_as l (parser s cr b) finale.Deep) (sym (append-nil o))
finishes s cr b o rest _ e = absurd (cc)

ended_at : (t : Token) (cr : Bool) (m m' : Reached) (b b' : Open) (o o' : List Op) (n x : Next) → answer b' o' n ≡ construct t b o → n ≡ x → is_last x ≡ true
    → m' ≡ m → EndedTo cr m' b' o' (ended.At (last_of x)) ≡ after_all o (build_end m.state cr (t ∷ m.tokens) b)
ended_at t cr m m' b b' o o' n x e is g same =
    ap (λ (v : Reached). EndedTo cr v b' o' (ended.At (last_of x))) same
    ∙ finishes m.state cr b' o' (build_end m.state cr m.tokens b') x g
    ∙ ap (λ v. after_all o' (build_end_on m.state cr b' (build_end m.state cr m.tokens b') v)) (sym is)
    ∙ build_end_token t m.tokens m.state cr b o b' o' n e

pub ended_finished : (t : Token) (cr : Bool) (m m' : Reached) (b b' : Open) (o o' : List Op) (n : Next) → answer b' o' n ≡ construct t b o → n ≡ next.Finished
    → m' ≡ m → EndedTo cr m' b' o' (ended.At finale.Finished) ≡ after_all o (build_end m.state cr (t ∷ m.tokens) b)
unfolding is_last
ended_finished t cr m m' b b' o o' n e is same = ended_at t cr m m' b b' o o' n next.Finished e is refl same

pub ended_deep : (t : Token) (cr : Bool) (m m' : Reached) (b b' : Open) (o o' : List Op) (n : Next) → answer b' o' n ≡ construct t b o → n ≡ next.Deep
    → m' ≡ m → EndedTo cr m' b' o' (ended.At finale.Deep) ≡ after_all o (build_end m.state cr (t ∷ m.tokens) b)
unfolding is_last
ended_deep t cr m m' b b' o o' n e is same = ended_at t cr m m' b b' o o' n next.Deep e is refl same

-- ---- a character, and the end

-- no token waited before those of a character
pub none-waited : (m r : Reached) (ts : List Token) → m ≡ after_tokens ts r → ts ≡ [] → m ≡ r
none-waited m r ts e none = e ∙ ap (λ (l : List Token). after_tokens l r) none

-- a character that the tokenizer emits as it is
pub plain_read : (es : Entities) (f : Bool) (s s' : TokState) (k : Class) (c : ℕ) → s' ≡ s → k ≡ class_of c → row es f s' k c ≡ emit (Character c ∷ []) s'
    → read es f s c ≡ record { tokens = Character c ∷ []; state = s }
plain_read es f s s' k c same class e =
    reading-emit es f s s (Character c ∷ []) (class_of c) c
    (subst (λ v. row es f v (class_of c) c ≡ emit (Character c ∷ []) v) same (subst (λ q. row es f s' q c ≡ emit (Character c ∷ []) s') class e))

-- the only token that a character makes was processed, and the parser goes on
pub went_alone : (t : Token) (cr : Bool) (m m' : Reached) (b b' : Open) (o o' : List Op) (w : Went) → m.tokens ≡ [] → m'.tokens ≡ m.tokens → w ≡ went.On
    → WentTo cr m' b' o' w ≡ after_ops o (build m.state cr (t ∷ m.tokens) b)
    → after_ops o (build m.state cr (t ∷ []) b) ≡ took o' (parser m'.state cr b') stop.InputEnd
unfolding build
went_alone t cr m m' b b' o o' w none waiting is e =
    ap (λ ts. after_ops o (build m.state cr (t ∷ ts) b)) (sym none) ∙ sym e
    ∙ ap (λ v. WentTo cr m' b' o' v) is
    ∙ ap (λ ts. after_ops o' (build m'.state cr ts b')) (waiting ∙ none)
    ∙ ap (λ l. took l (parser m'.state cr b') stop.InputEnd) (append-nil o')

-- the line feed behind a CR
pub taken-skipped : (es : Entities) (s : TokState) (cr : Bool) (b : Open) (c : ℕ) (o : List Op) → (cr && (c == 10)) ≡ true
    → after_ops o (take_character es (parser s cr b) c) ≡ took o (parser s false b) stop.InputEnd
unfolding take_character
taken-skipped es s cr b c o e = by (cr && (c == 10)) e
  where
    by : (v : Bool) → v ≡ true
        → after_ops o (elim v [ true ↦ took [] (parser s false b) stop.InputEnd | false ↦ elim (c == 13) [ true ↦ built (parser s cr b) true (read es (is_foreign b) s 10) | false ↦ built (parser s cr b) false (read es (is_foreign b) s c) ] ])
        ≡ took o (parser s false b) stop.InputEnd
    by true e = ap (λ l. took l (parser s false b) stop.InputEnd) (append-nil o)
    by false e = cc

-- any other
pub taken-read : (es : Entities) (s : TokState) (cr : Bool) (b : Open) (c r : ℕ) (o : List Op) (t : Took) → (cr && (c == 10)) ≡ false → r ≡ (if c == 13 then 10 else c)
    → after_ops o (build (read es (is_foreign b) s r).state (c == 13) (read es (is_foreign b) s r).tokens b) ≡ t
    → after_ops o (take_character es (parser s cr b) c) ≡ t
unfolding take_character
taken-read es s cr b c r o t e g is =
    by (cr && (c == 10)) e (at_cr (c == 13) (subst (λ v. after_ops o (build (read es (is_foreign b) s v).state (c == 13) (read es (is_foreign b) s v).tokens b) ≡ t) g is))
  where
    at_cr : (v : Bool) → after_ops o (build (read es (is_foreign b) s (if v then 10 else c)).state v (read es (is_foreign b) s (if v then 10 else c)).tokens b) ≡ t
        → after_ops o (elim v [ true ↦ built (parser s cr b) true (read es (is_foreign b) s 10) | false ↦ built (parser s cr b) false (read es (is_foreign b) s c) ]) ≡ t
    at_cr true is = is
    at_cr false is = is

    by : (v : Bool) → v ≡ false → after_ops o (elim (c == 13) [ true ↦ built (parser s cr b) true (read es (is_foreign b) s 10) | false ↦ built (parser s cr b) false (read es (is_foreign b) s c) ]) ≡ t
        → after_ops o (elim v [ true ↦ took [] (parser s false b) stop.InputEnd | false ↦ elim (c == 13) [ true ↦ built (parser s cr b) true (read es (is_foreign b) s 10) | false ↦ built (parser s cr b) false (read es (is_foreign b) s c) ] ]) ≡ t
    by true e is = cc
    by false e is = is

pub finished-read : (es : Entities) (s : TokState) (cr : Bool) (b : Open) (o : List Op) (f : Finished)
    → after_all o (build_end (read_end es (is_foreign b) s).state cr (read_end es (is_foreign b) s).tokens b) ≡ f → after_all o (finish es (parser s cr b)) ≡ f
unfolding finish
finished-read es s cr b o f is = is

-- ---- the page's ending

pub ends-well : (es : Entities) (p p' : Parser) (o o' : List Op) (e : Ending) (k : Finish) (x : End) → e ≡ ending.End → after_all o (finish es p) ≡ finished_as o' p' k → result_of x ≡ result_at k
    → EndsAs (end_batch es p e) o p' o' x
ends-well es p p' o o' e k x at_end run is =
    subst (λ (y : Ending). EndsAs (end_batch es p y) o p' o' x) (sym at_end)
    (record {
      ops = sym (ap (λ (g : Finished). g.ops) run);
      state = sym (ap (λ (g : Finished). g.parser) run);
      answer = ap over_with is ∙ ap (λ (g : Finished). over_with (result_at g.finish)) (sym run);
    })

pub ends-refused : (p : Parser) (o : List Op) (w : Why) (b : Batch) → b ≡ refusal_batch p w → EndsAs b o p o (end.Refused w)
ends-refused p o w b is =
    subst (λ (y : Batch). EndsAs y o p o (end.Refused w)) (sym is)
    (record {
      ops = sym (append-nil o);
      state = refl;
      answer = refl;
    })

-- ---- a text

-- the parse of a text of n characters led to this state and stop, with its operations behind those before
pub record IsOver (r : Parsed) (o0 : List Op) (n : ℕ) (p : Parser) (o : List Op) (s : Stop) : Type 0 where
  pub ops : o ≡ o0 ++ r.ops
  pub state : p ≡ r.parser
  pub used : r.used ≡ n
  pub at_stop : s ≡ r.stop

pub over-nothing : (es : Entities) (p : Parser) (o : List Op) → IsOver (parse es p []) o 0 p o stop.InputEnd
unfolding parse
over-nothing es p o = record { ops = sym (append-nil o); state = refl; used = refl; at_stop = refl }

took_ops : Took → List Op
took_ops (took ops p s) = ops

took_parser : Took → Parser
took_parser (took ops p s) = p

took_stop : Took → Stop
took_stop (took ops p s) = s

one-took : (es : Entities) (k : Took) (o o' : List Op) (p' : Parser) (s : Stop) → after_ops o k ≡ took o' p' s → IsOver (and_rest k (λ q. parse es q [])) o 1 p' o' s
unfolding parse took_ops took_parser took_stop
one-took es (took ops p stop.InputEnd) o o' p' s e = record {
  ops = sym (ap took_ops e) ∙ ap (λ l. o ++ l) (sym (append-nil ops));
  state = sym (ap took_parser e);
  used = refl;
  at_stop = sym (ap took_stop e);
}
one-took es (took ops p _) o o' p' s e = record { ops = sym (ap took_ops e); state = sym (ap took_parser e); used = refl; at_stop = sym (ap took_stop e) }

pub one-character : (es : Entities) (p : Parser) (c : ℕ) (o o' : List Op) (p' : Parser) (s : Stop) → after_ops o (take_character es p c) ≡ took o' p' s
    → IsOver (parse es p (c ∷ [])) o 1 p' o' s
unfolding parse
one-character es p c o o' p' s e = one-took es (take_character es p c) o o' p' s e

over-both : (o0 o o' : List Op) (p p' : Parser) (s : Stop) (n : ℕ) (r q : Parsed) → IsOver r o0 n p o stop.InputEnd → IsOver q o 1 p' o' s
    → IsOver (joined r q) o0 (n + 1) p' o' s
over-both o0 o o' p p' s n r q over one = record {
  ops = one.ops ∙ ap (λ l. l ++ q.ops) over.ops ∙ append_assoc o0 r.ops q.ops;
  state = one.state;
  used = omega (arith, over.used, one.used);
  at_stop = one.at_stop;
}

-- one more character
pub over-more : (es : Entities) (p0 : Parser) (o0 : List Op) (x : List ℕ) (p : Parser) (o : List Op) (c : ℕ) (p' : Parser) (o' : List Op) (s : Stop)
    → IsOver (parse es p0 x) o0 (length x) p o stop.InputEnd → after_ops o (take_character es p c) ≡ took o' p' s
    → IsOver (parse es p0 (x ++ c ∷ [])) o0 (length (x ++ c ∷ [])) p' o' s
over-more es p0 o0 x p o c p' o' s over e =
    let r : Parsed = parse es p0 x in
    let one : IsOver (parse es r.parser (c ∷ [])) o 1 p' o' s = subst (λ (v : Parser). IsOver (parse es v (c ∷ [])) o 1 p' o' s) over.state (one-character es p c o o' p' s e) in
    let whole : joined r (parse es r.parser (c ∷ [])) ≡ parse es p0 (x ++ c ∷ [])
    = sym (parse-append es p0 x (c ∷ []) ∙ ap (λ v. unless_stopped v r (λ q. parse es q (c ∷ []))) (sym over.at_stop)) in
    let n : length x + 1 ≡ length (x ++ c ∷ []) = sym (length-append x (c ∷ [])) in
    subst (λ (w : Parsed). IsOver w o0 (length (x ++ c ∷ [])) p' o' s) whole
    (subst (λ (k : ℕ). IsOver (joined r (parse es r.parser (c ∷ []))) o0 k p' o' s) n (over-both o0 o o' p p' s (length x) r (parse es r.parser (c ∷ [])) over one))

pub not_stopped : (s : Stop) → stops s ≡ false → s ≡ stop.InputEnd
not_stopped stop.InputEnd e = refl
not_stopped _ e = cc

-- behind a stop nothing more is parsed
stays-stopped : (s : Stop) (r : Parsed) (f : Parser → Parsed) → stops s ≡ true → unless_stopped s r f ≡ r
stays-stopped stop.InputEnd r f e = cc
stays-stopped _ r f e = refl

over-whole : (es : Entities) (p0 : Parser) (o0 : List Op) (x rest : List ℕ) (p : Parser) (o : List Op) (s : Stop)
    → IsOver (parse es p0 x) o0 (length x) p o s → stops s ≡ true → parse es p0 (x ++ rest) ≡ parse es p0 x
over-whole es p0 o0 x rest p o s over e =
    parse-append es p0 x rest ∙ stays-stopped (parse es p0 x).stop (parse es p0 x) (λ q. parse es q rest) (subst (λ v. stops v ≡ true) over.at_stop e)

chars-halves : (text : List ℕ) (used : ℕ) → IsUtf8 text → IsCharBoundary text used → chars text ≡ chars (take used text) ++ chars (drop used text)
chars-halves text used u b = ap chars (sym (take-append-drop used text)) ∙ chars-append (take used text) (drop used text) (IsUtf8-take text used u b)

-- what a run answers: at a stop, or where all is used
pub ran-as : (es : Entities) (p0 : Parser) (o0 : List Op) (text : List ℕ) (used : ℕ) (p : Parser) (o : List Op) (s : Stop)
    → IsUtf8 text → IsCharBoundary text used
    → IsOver (parse es p0 (chars (take used text))) o0 (length (chars (take used text))) p o s
    → parse es p0 (chars text) ≡ parse es p0 (chars (take used text))
    → RanAs (parse es p0 (chars text)) o0 p o (record { stop = s; used = used }) text
ran-as es p0 o0 text used p o s u b over whole =
    let x : List ℕ = chars (take used text) in
    let halves : chars text ≡ x ++ chars (drop used text) = chars-halves text used u b in
    subst (λ (w : Parsed). RanAs w o0 p o (record { stop = s; used = used }) text) (sym whole) (record {
      ops = over.ops;
      state = over.state;
      stop = over.at_stop;
      used = sym (ap (λ n. take n (chars text)) over.used ∙ ap (take (length x)) halves ∙ take-append_seam x (chars (drop used text)));
    })

pub ran-stopped : (es : Entities) (p0 : Parser) (o0 : List Op) (text : List ℕ) (used : ℕ) (p : Parser) (o : List Op) (s : Stop)
    → IsUtf8 text → IsCharBoundary text used → stops s ≡ true
    → IsOver (parse es p0 (chars (take used text))) o0 (length (chars (take used text))) p o s
    → RanAs (parse es p0 (chars text)) o0 p o (record { stop = s; used = used }) text
ran-stopped es p0 o0 text used p o s u b e over =
    ran-as es p0 o0 text used p o s u b over
    (ap (parse es p0) (chars-halves text used u b) ∙ over-whole es p0 o0 (chars (take used text)) (chars (drop used text)) p o s over e)

pub ran-through : (es : Entities) (p0 : Parser) (o0 : List Op) (text : List ℕ) (used : ℕ) (p : Parser) (o : List Op) (s : Stop)
    → IsUtf8 text → IsCharBoundary text used → used ≡ length text
    → IsOver (parse es p0 (chars (take used text))) o0 (length (chars (take used text))) p o s
    → RanAs (parse es p0 (chars text)) o0 p o (record { stop = s; used = used }) text
ran-through es p0 o0 text used p o s u b e over =
    ran-as es p0 o0 text used p o s u b over (ap (λ t. parse es p0 (chars t)) (sym (ap (λ n. take n text) e ∙ take-length text)))
