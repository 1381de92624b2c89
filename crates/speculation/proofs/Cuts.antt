-- A text that is cut into batches, one behind another.
use Rattle.std.proofs.Common.{◌≡◌, ◌≤◌, ◌<◌, ℕ, zero, suc, Bool, true, false, if◌then◌else◌, List, [], ◌∷◌, ◌++◌, length, take, drop, Option, Some, None, refl, sym, ◌∙◌, ap, subst, append_assoc, append-nil, take-append-drop, length-drop, arith}
use Rattle.std.specs.Str.{chars, IsCharBoundary, IsUtf8, encode_utf8_all}
use Rattle.std.proofs.lemmas.Str.{IsUtf8-take, chars-append, encodes-chars}
use Rattle.std.proofs.lemmas.List.{append_cancel_left}
use Rattle.html_types.specs.declared.operation.Op.{Op}
use Rattle.html_types.specs.declared.instruction.Stop.{Stop}
use Rattle.html_types.specs.declared.instruction.Stop.TheVariants as stop
use Rattle.html_types.specs.declared.ending.Ending.{Ending}
use Rattle.html_types.specs.declared.ending.Ending.TheVariants as ending
use Rattle.standard.specs.Entities.{Entities}
use Rattle.standard.specs.Parser.{Parser, Parsed, parse}
use Rattle.parse_machine.specs.declared.machine.Ran.{Ran}
use Rattle.parse_machine.specs.declared.end.End.{End}
use Rattle.parse_machine.specs.Machine.{RanAs, EndsAs}
use Rattle.parse_machine.specs.Ends.{result_of}
use Rattle.core_definitions.specs.Batches.{Piece, Batch, Halt, at, Answered, and_behind, cut, end_batch, and_ending, answer, over_with}
use Rattle.core_laws.proofs.Cutting.{cut-enough, shorter}
use Rattle.speculation.specs.Halting.{first_batch}

-- ---- the first batch of a text, as the machine gives it

-- the rest of a text, in characters
rest-chars : (bs : List ℕ) (used k : ℕ) → IsUtf8 bs → IsCharBoundary bs used → chars (take used bs) ≡ take k (chars bs) → chars (drop used bs) ≡ drop k (chars bs)
rest-chars bs used k text boundary front =
    append_cancel_left (chars (take used bs)) (chars (drop used bs)) (drop k (chars bs))
    (sym (chars-append (take used bs) (drop used bs) (IsUtf8-take bs used text boundary))
    ∙ (ap chars (take-append-drop used bs)
    ∙ (sym (take-append-drop k (chars bs)) ∙ ap (λ xs. xs ++ drop k (chars bs)) (sym front))))

abbrev batch_of : Parser → List ℕ → List Op → Parser → Stop → Batch
batch_of start used ops after why = record { start = start; text = used; ops = ops; after = after; halt = at why }

-- a machine has parsed a text up to the first stop
pub record HasRun (es : Entities) (p : Parser) (text : List ℕ) (p' : Parser) (ops : List Op) (ran : Ran) : Type 0 where
  pub boundary : IsCharBoundary (encode_utf8_all text) ran.used
  pub front : chars (take ran.used (encode_utf8_all text)) ≡ take (parse es p text).used text
  pub rest : chars (drop ran.used (encode_utf8_all text)) ≡ drop (parse es p text).used text
  pub operations : ops ≡ (parse es p text).ops
  pub state : p' ≡ (parse es p text).parser
  pub stop : ran.stop ≡ (parse es p text).stop

run-of : (es : Entities) (p : Parser) (bytes : List ℕ) (p' : Parser) (before ops : List Op) (ran : Ran) → IsUtf8 bytes → before ≡ [] → RanAs (parse es p (chars bytes)) before p' ops ran bytes →
    IsCharBoundary bytes ran.used → HasRun es p (chars bytes) p' ops ran
run-of es p bytes p' before ops ran utf8 none run boundary =
    let is : encode_utf8_all (chars bytes) ≡ bytes = encodes-chars bytes utf8 in
    record {
      boundary = subst (λ (x : List ℕ). IsCharBoundary x ran.used) (sym is) boundary;
      front = ap (λ x. chars (take ran.used x)) is ∙ run.used;
      rest = ap (λ x. chars (drop ran.used x)) is ∙ rest-chars bytes ran.used (parse es p (chars bytes)).used utf8 boundary run.used;
      operations = run.ops ∙ ap (λ l. l ++ (parse es p (chars bytes)).ops) none;
      state = run.state;
      stop = run.stop;
    }

pub has-run : (es : Entities) (p : Parser) (bytes text : List ℕ) (p' : Parser) (before ops : List Op) (ran : Ran) → IsUtf8 bytes → chars bytes ≡ text → before ≡ [] →
    RanAs (parse es p (chars bytes)) before p' ops ran bytes → IsCharBoundary bytes ran.used → HasRun es p text p' ops ran
has-run es p bytes text p' before ops ran utf8 is none run boundary =
    subst (λ (t : List ℕ). HasRun es p t p' ops ran) is (run-of es p bytes p' before ops ran utf8 none run boundary)

-- the batch that is made of it
pub is-first : (es : Entities) (p : Parser) (t : List ℕ) (start : Parser) (used : List ℕ) (ops : List Op) (after : Parser) (why : Stop) → start ≡ p → used ≡ take (parse es p t).used t →
    ops ≡ (parse es p t).ops → after ≡ (parse es p t).parser → why ≡ (parse es p t).stop → batch_of start used ops after why ≡ first_batch es p t
is-first es p t start used ops after why a b c d e = rw (a, b, c, d, e) refl

-- ---- what comes behind it

behind-goes : (b : Batch) (s : Stop) (a : Answered) → (s ≡ stop.Deep → ⊥) → and_behind b s a ≡ record a { batches = b ∷ a.batches }
behind-goes b stop.InputEnd a on = refl
behind-goes b (stop.Script i) a on = refl
behind-goes b stop.Deep a on = absurd (on refl)

cut-on : (es : Entities) (p : Parser) (t : List ℕ) → (t ≡ [] → ⊥) →
    cut (length t) es p t ≡ and_behind (first_batch es p t) (parse es p t).stop (cut (length (drop (parse es p t).used t)) es (parse es p t).parser (drop (parse es p t).used t))
unfolding cut
cut-on es p [] some = absurd (some refl)
cut-on es p (c ∷ cs) some =
    let r : Parsed = parse es p (c ∷ cs) in
    let back : List ℕ = drop r.used (c ∷ cs) in
    let n : length cs ≤ length cs = omega arith in
    let k : length back ≤ length back = omega arith in
    ap (and_behind (first_batch es p (c ∷ cs)) r.stop) (cut-enough (length cs) (length back) es r.parser back (shorter es p c cs (length cs) n) k)

abbrev stop_in : Halt → Stop
stop_in (at s) = s
stop_in (over_with w) = stop.InputEnd

-- ---- the text, batch by batch

-- These batches are made, and a parser is left with a rest of the text that was to be cut behind other batches.
pub record IsLeft (es : Entities) (made : List Batch) (p : Parser) (rest : List ℕ) (before : List Batch) (p0 : Parser) (text : List ℕ) : Type 0 where
  pub batches : made ++ (cut (length rest) es p rest).batches ≡ before ++ (cut (length text) es p0 text).batches
  pub parser : (cut (length rest) es p rest).parser ≡ (cut (length text) es p0 text).parser

-- the first batch of the rest is made
pub record IsMade (es : Entities) (p : Parser) (t : List ℕ) (b : Batch) (p' : Parser) (t' : List ℕ) : Type 0 where
  pub some : t ≡ [] → ⊥
  pub batch : b ≡ first_batch es p t
  pub parser : p' ≡ (parse es p t).parser
  pub rest : t' ≡ drop (parse es p t).used t

module _ (es : Entities) (made : List Batch) (p : Parser) (t : List ℕ) (before : List Batch) (p0 : Parser) (text : List ℕ) (left : IsLeft es made p t before p0 text) where
  pub none-left : t ≡ [] → (made ≡ before ++ (cut (length text) es p0 text).batches) × ((cut (length text) es p0 text).parser ≡ Some p)
  unfolding cut
  none-left none =
      let empty : cut (length t) es p t ≡ record { batches = []; parser = Some p } = ap (λ (u : List ℕ). cut (length u) es p u) none in
      (sym (append-nil made) ∙ (ap (λ (a : Answered). made ++ a.batches) (sym empty) ∙ left.batches), sym left.parser ∙ ap (λ (a : Answered). a.parser) empty)

  module _ (b : Batch) (p' : Parser) (t' : List ℕ) (next : IsMade es p t b p' t') where
    abbrev r : Parsed
    r = parse es p t

    halts : b.halt ≡ at r.stop
    halts = ap (λ (x : Batch). x.halt) next.batch

    behind : cut (length t) es p t ≡ and_behind b r.stop (cut (length t') es p' t')
    behind =
        cut-on es p t next.some
        ∙ (ap (λ x. and_behind x r.stop (cut (length (drop r.used t)) es r.parser (drop r.used t))) (sym next.batch)
        ∙ (ap (λ q. and_behind b r.stop (cut (length (drop r.used t)) es q (drop r.used t))) (sym next.parser)
        ∙ ap (λ (u : List ℕ). and_behind b r.stop (cut (length u) es p' u)) (sym next.rest)))

    pub less-left : (b.halt ≡ at stop.Deep → ⊥) → (made' : List Batch) → made' ≡ made ++ b ∷ [] → IsLeft es made' p' t' before p0 text
    less-left on made' is =
        let goes : cut (length t) es p t ≡ record (cut (length t') es p' t') { batches = b ∷ (cut (length t') es p' t').batches } =
        behind ∙ behind-goes b r.stop (cut (length t') es p' t') (λ q. on (halts ∙ ap at q)) in
        record {
          batches = ap (λ l. l ++ (cut (length t') es p' t').batches) is
              ∙ (append_assoc made (b ∷ []) (cut (length t') es p' t').batches
              ∙ (ap (λ (a : Answered). made ++ a.batches) (sym goes) ∙ left.batches));
          parser = ap (λ (a : Answered). a.parser) (sym goes) ∙ left.parser;
        }

    pub refused-there : b.halt ≡ at stop.Deep → (made' : List Batch) → made' ≡ made ++ b ∷ [] →
        (made' ≡ before ++ (cut (length text) es p0 text).batches) × ((cut (length text) es p0 text).parser ≡ None)
    refused-there deep made' is =
        let stops : r.stop ≡ stop.Deep = ap stop_in (sym halts ∙ deep) in
        let alone : cut (length t) es p t ≡ record { batches = b ∷ []; parser = None } =
        behind ∙ ap (λ s. and_behind b s (cut (length t') es p' t')) stops in
        (is ∙ (ap (λ (a : Answered). made ++ a.batches) (sym alone) ∙ left.batches), sym left.parser ∙ ap (λ (a : Answered). a.parser) alone)

-- it has fewer characters then
pub fewer : (es : Entities) (p : Parser) (t t' : List ℕ) → (t ≡ [] → ⊥) → t' ≡ drop (parse es p t).used t → length t' < length t
fewer es p [] t' some is = absurd (some refl)
fewer es p (c ∷ cs) t' some is =
    let n : length cs ≤ length cs = omega arith in
    let k : length (drop (parse es p (c ∷ cs)).used (c ∷ cs)) ≤ length cs = shorter es p c cs (length cs) n in
    rw is (omega (arith, k))

-- ---- the batch of the page's ending

abbrev with_start : Parser → Batch → Batch
with_start p b = record b { start = p; text = [] }

ends-there : (es : Entities) (p : Parser) (e : Ending) → with_start p (end_batch es p e) ≡ end_batch es p e
ends-there es p ending.End = refl
ends-there es p ending.Bad = refl
ends-there es p ending.Long = refl
ends-there es p ending.Fault = refl

pub is-last : (es : Entities) (p : Parser) (e : Ending) (start : Parser) (text : List ℕ) (before ops : List Op) (after p' : Parser) (end : End) (h : Halt) → start ≡ p → text ≡ [] → before ≡ [] →
    after ≡ p' → h ≡ over_with (result_of end) → EndsAs (end_batch es p e) before p' ops end → record { start = start; text = text; ops = ops; after = after; halt = h } ≡ end_batch es p e
is-last es p e start text before ops after p' end h a b none c d ended = rw (a, b, c, d, ended.ops, none, ended.state, ended.answer) (ends-there es p e)

-- ---- a piece: its text, and its ending behind that

module _ (es : Entities) (p : Parser) (x : Piece) where
  abbrev text_cut : Answered
  text_cut = cut (length x.text) es p x.text

  refused-by : (o : Option Ending) (a : Answered) → a.parser ≡ None → and_ending es o a ≡ record { batches = a.batches; parser = None }
  refused-by None a none = ap (λ q. record { batches = a.batches; parser = q }) none
  refused-by (Some e) a none = rw none refl

  ended-by : (o : Option Ending) (e : Ending) (a : Answered) (q : Parser) → o ≡ Some e → a.parser ≡ Some q → and_ending es o a ≡ record { batches = a.batches ++ end_batch es q e ∷ []; parser = None }
  ended-by o e a q is some = rw (is, some) refl

  pub answer-refused : text_cut.parser ≡ None → answer es (Some p) x ≡ record { batches = text_cut.batches; parser = None }
  unfolding answer
  answer-refused none = refused-by x.ending text_cut none

  pub answer-open : x.ending ≡ None → answer es (Some p) x ≡ text_cut
  unfolding answer
  answer-open none = ap (λ o. and_ending es o text_cut) none

  pub answer-ended : (q : Parser) (e : Ending) → text_cut.parser ≡ Some q → x.ending ≡ Some e → answer es (Some p) x ≡ record { batches = text_cut.batches ++ end_batch es q e ∷ []; parser = None }
  unfolding answer
  answer-ended q e some is = ended-by x.ending e text_cut q is some

-- nothing is made of it where there is no parser
pub answer-none : (es : Entities) (x : Piece) → answer es None x ≡ record { batches = []; parser = None }
unfolding answer
answer-none es x = refl

-- ---- a piece whose text was cut

module _ (es : Entities) (p : Parser) (x : Piece) (t : List ℕ) (goes_on : Bool) (q : Parser) (before made : List Batch) (is : t ≡ x.text)
    (parser : (cut (length t) es p t).parser ≡ (if goes_on then Some q else None)) (batches : made ≡ before ++ (cut (length t) es p t).batches) where
  in-all : (cut (length x.text) es p x.text).parser ≡ (if goes_on then Some q else None)
  in-all = ap (λ (u : List ℕ). (cut (length u) es p u).parser) (sym is) ∙ parser

  made-all : made ≡ before ++ (cut (length x.text) es p x.text).batches
  made-all = batches ∙ ap (λ (u : List ℕ). before ++ (cut (length u) es p u).batches) is

  pub piece-refused : goes_on ≡ false → (made ≡ before ++ (answer es (Some p) x).batches) × (None ≡ (answer es (Some p) x).parser)
  piece-refused off =
      let a : answer es (Some p) x ≡ record { batches = (cut (length x.text) es p x.text).batches; parser = None } =
      answer-refused es p x (in-all ∙ ap (λ (b : Bool). if b then Some q else None) off) in
      (made-all ∙ ap (λ (y : Answered). before ++ y.batches) (sym a), sym (ap (λ (y : Answered). y.parser) a))

  module _ (on : goes_on ≡ true) where
    there : (cut (length x.text) es p x.text).parser ≡ Some q
    there = in-all ∙ ap (λ (b : Bool). if b then Some q else None) on

    pub piece-open : None ≡ x.ending → (made ≡ before ++ (answer es (Some p) x).batches) × (Some q ≡ (answer es (Some p) x).parser)
    piece-open none =
        let a : answer es (Some p) x ≡ cut (length x.text) es p x.text = answer-open es p x (sym none) in
        (made-all ∙ ap (λ (y : Answered). before ++ y.batches) (sym a), sym there ∙ sym (ap (λ (y : Answered). y.parser) a))

    pub piece-ended : (e : Ending) (b : Batch) (made' : List Batch) → Some e ≡ x.ending → b ≡ end_batch es q e → made' ≡ made ++ b ∷ [] →
        (made' ≡ before ++ (answer es (Some p) x).batches) × (None ≡ (answer es (Some p) x).parser)
    piece-ended e b made' some last added =
        let text : List Batch = (cut (length x.text) es p x.text).batches in
        let a : answer es (Some p) x ≡ record { batches = text ++ end_batch es q e ∷ []; parser = None } = answer-ended es p x q e there (sym some) in (
          added
              ∙ (ap (λ (l : List Batch). l ++ b ∷ []) made-all
              ∙ (append_assoc before text (b ∷ [])
              ∙ (ap (λ (y : Batch). before ++ (text ++ y ∷ [])) last ∙ ap (λ (y : Answered). before ++ y.batches) (sym a)))),
          sym (ap (λ (y : Answered). y.parser) a),
        )
