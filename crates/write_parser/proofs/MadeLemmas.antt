-- The changes that a log gains, step by step.
use Rattle.std.proofs.Common.{◌≡◌, ◌≢◌, ◌⊎◌, inl, inr, ℕ, Bool, true, false, List, [], ◌∷◌, ◌++◌, fold, drop, map, reverse, if◌then◌else◌, Option, Some, None, Result, Ok, Err, OnOk, refl, sym, ap, ◌∙◌, subst, append-nil, append_assoc, ◌+◌}
use Rattle.std.proofs.lemmas.List.Sums.{fold-append}
use Rattle.html_types.specs.declared.ending.Why.{Why}
use Rattle.html_types.specs.declared.instruction.Stop.{Stop}
use Rattle.html_types.specs.declared.instruction.Stop.TheVariants as stop
use Rattle.html_types.specs.declared.operation.NodeId.{NodeId}
use Rattle.serial.specs.declared.script.Statement.{Statement}
use Rattle.standard.specs.Entities.{Entities}
use Rattle.html_types.specs.declared.operation.Op.{Op}
use Rattle.html_types.specs.declared.open.Context.{Context}
use Rattle.standard.specs.Fragment.{fragment, context_at}
use Rattle.standard.specs.Tree.{Nodes, lies_in}
use Rattle.standard.specs.Act.{Doc, node_of}
use Rattle.standard.specs.Parser.{Parser}
use Rattle.standard.specs.Prepare.{Prepared, still, inline, external, prepare}
use Rattle.serial.specs.Statements.{statements}
use Rattle.standard_laws.specs.Frames.{Frame, Waits, LacksElement}
use Rattle.standard_laws.specs.Laws.{HasParsed}
use Rattle.doc_changes.specs.declared.change.Change.{Change}
use Rattle.doc_changes.specs.declared.change.Change.TheVariants.{Moved}
use Rattle.doc_changes.specs.Changes.{changed}
use Rattle.doc_changes.specs.Logs.{LogView, with_more, Logs}
use Rattle.doc_changes.proofs.Logs.{added_logged}
use Rattle.write_parser.specs.declared.nesting.Begun.{Begun}
use Rattle.write_parser.specs.declared.nesting.Nesting.{Nesting}
use Rattle.write_parser.specs.declared.live.Live.{Live}
use Rattle.write_parser.specs.declared.live.Did.{Did}
use Rattle.write_parser.specs.declared.live.Did.TheVariants as did
use Rattle.write_parser.specs.declared.live.Progress.{Progress}
use Rattle.write_parser.specs.Made.{of_text, of_move, of_fragment, of_setting, of_statement, At, text_at, with_left, BeginsBy, IsPreparedBy, StopsBy, ended_in, EndsScript, Made, nothing, follows, parses, does, ends, gives_up, MadeAtTag, MadeByText, MadeUnless, LogsBy}
use Rattle.write_parser.specs.Steps.{framed, frame_of, frames_of, frames_at, with_begun, at_of, LogsMade, LacksBy, left_by, Does, Prepares, awaits_none, Begins}
use Rattle.write_parser.proofs.NestingLemmas.{NextIs, LeftIs, frames-below}

-- ---- the log

pub none-more : (log : LogView) → log ≡ with_more [] log
none-more log = by log.on
  where
    by : (b : Bool) → log ≡ (if b then record log { list = log.list ++ [] } else log)
    by true = ap (λ (l : List Change). record log { list = l }) (sym (append-nil log.list))
    by false = refl

more-more : (x y : List Change) (log : LogView) → with_more y (with_more x log) ≡ with_more (x ++ y) log
more-more x y log = by log.on log.list
  where
    by : (on : Bool) (list : List Change) → with_more y (with_more x (record { on = on; list = list })) ≡ with_more (x ++ y) (record { on = on; list = list })
    by true list = ap (λ (l : List Change). record { on = true; list = l }) (append_assoc list x y)
    by false list = refl

pub then_by : (Are Next Both : List Change → Type 0) (a b c : LogView) → ((x y : List Change) → Are x → Next y → Both (x ++ y)) → LogsBy Are a b → LogsBy Next b c → LogsBy Both a c
then_by Are Next Both a b c both first next = record {
  more = first.more ++ next.more;
  adds = next.adds ∙ (ap (with_more next.more) first.adds ∙ more-more first.more next.more a);
  made = both first.more next.more first.made next.made;
}

pub logs_as : (Are Or : List Change → Type 0) (a b : LogView) → ((x : List Change) → Are x → Or x) → LogsBy Are a b → LogsBy Or a b
logs_as Are Or a b each logs = record { more = logs.more; adds = logs.adds; made = each logs.more logs.made }

-- a call's log, whatever came of it
pub ok_so : {T E : Type 0} (r : Result T E) (P : Type 0) → P → OnOk r P
ok_so (Ok x) P so = so
ok_so (Err e) P so = tt

-- ---- what a script does

pub move-logged : (t : Nodes) (v w : Option ℕ) (first second : ℕ) (log log' : LogView) → v ≡ Some first → w ≡ Some second →
    log' ≡ (if lies_in t first second then log else with_more (Moved first second ∷ []) log) → log' ≡ with_more (of_move t v w) log
move-logged t v w first second log log' is_v is_w adds = rw (is_v, is_w) (by (lies_in t first second) adds)
  where
    by : (b : Bool) → log' ≡ (if b then log else with_more (Moved first second ∷ []) log) → log' ≡ with_more (if b then [] else Moved first second ∷ []) log
    by true same = same ∙ none-more log
    by false adds = adds

pub lacks-first-logged : (t : Nodes) (v w : Option ℕ) (log : LogView) → v ≡ None → log ≡ with_more (of_move t v w) log
lacks-first-logged t v w log is = subst (λ (f : Option ℕ). log ≡ with_more (of_move t f w) log) (sym is) (none-more log)

pub lacks-second-logged : (t : Nodes) (v w : Option ℕ) (first : ℕ) (log : LogView) → v ≡ Some first → w ≡ None → log ≡ with_more (of_move t v w) log
lacks-second-logged t v w first log is_v is_w = rw (is_v, is_w) (none-more log)

-- what comes of a fragment
pub setting-is : (es : Entities) (quirks : Bool) (t : Nodes) (n : ℕ) (text : List ℕ) (context : Context) (ops : Option (List Op)) → context ≡ context_at t n quirks → ops ≡ fragment es context text →
    of_fragment n context.form ops ≡ of_setting es quirks t (Some n) text
setting-is es quirks t n text context ops there is =
    ap (of_fragment n context.form) is ∙ ap (λ (c : Context). of_fragment n c.form (fragment es c text)) there

-- a statement that changes nothing
pub stays-logged : {T E : Type 0} (r : Result T E) (es : Entities) (quirks : Bool) (t : Nodes) (a this : Statement) (log : LogView) → a ≡ this → of_statement es quirks t this ≡ [] →
    OnOk r (log ≡ with_more (of_statement es quirks t a) log)
stays-logged r es quirks t a this log is none =
    ok_so r _ (subst (λ (more : List Change). log ≡ with_more more log) (sym (ap (of_statement es quirks t) is ∙ none)) (none-more log))

-- ---- steps

pub none_made : (es : Entities) (a : At) (log : LogView) → LogsBy (λ more. Made es a more a) log log
none_made es a log = record { more = []; adds = none-more log; made = nothing a }

pub then_made : (es : Entities) (a b c : At) (l m n : LogView) → LogsBy (λ more. Made es a more b) l m → LogsBy (λ more. Made es b more c) m n → LogsBy (λ more. Made es a more c) l n
then_made es a b c l m n first next =
    then_by (λ more. Made es a more b) (λ more. Made es b more c) (λ more. Made es a more c) l m n (λ x y made made'. follows a b c x y made made') first next

-- up to that turn
pub turn_made : (es : Entities) (old mid new : Live) (fs fs' : List Frame) (n : Nesting) (t k : Progress) (l m o : LogView) → t ≡ k → LogsMade es old fs mid fs' l m → LogsMade es mid fs' new (frames_at t n) m o →
    LogsMade es old fs new (frames_at k n) l o
turn_made es old mid new fs fs' n t k l m o is first next =
    then_made es (at_of old fs) (at_of mid fs') (at_of new (frames_at k n)) l m o first
    (subst (λ (j : Progress). LogsMade es mid fs' new (frames_at j n) m o) is next)

-- no script is left
pub given_up : (es : Entities) (l : Live) (fs : List Frame) (r : Why) (log : LogView) → l.halted ≡ Some r → LogsMade es l fs l [] log log
given_up es l fs r log halted = record { more = []; adds = none-more log; made = gives_up (at_of l fs) (at_of l []) r halted refl }

-- no script was begun
pub none_begun_made : (es : Entities) (l : Live) (begun : Option Begun) (log : LogView) → ((b : Begun) → begun ≡ Some b → ⊥) → LogsMade es l (with_begun begun []) l [] log log
none_begun_made es l None log not = none_made es (at_of l []) log
none_begun_made es l (Some b) log not = absurd (not b refl)

pub script_ended : (es : Entities) (a b : At) (log : LogView) → EndsScript a b → LogsBy (λ more. Made es a more b) log log
script_ended es a b log ended = record { more = []; adds = none-more log; made = ends a b ended }

-- the innermost script, with no statement left
framed-end : (b : Begun) (fs : List Frame) → drop b.done b.script ≡ [] → frame_of b ∷ fs ≡ framed b.number [] b.rest ∷ fs
framed-end b fs ended = ap (λ (list : List Statement). framed b.number list b.rest ∷ fs) ended

pub outermost-ends : (old new : Live) (n : Nesting) → Waits old.pending n.top.rest → drop n.top.done n.top.script ≡ [] → n.below.items ≡ [] → new ≡ record old { rest = n.top.rest ++ old.rest } →
    EndsScript (at_of old (frames_of n)) (at_of new [])
outermost-ends old new n waits ended none is = record {
  number = n.top.number;
  rest = n.top.rest;
  around = [];
  frames = ap (λ (items : List Begun). frame_of n.top ∷ map frame_of (reverse items)) none ∙ framed-end n.top [] ended;
  waits = waits;
  is = ap (λ (l : Live). at_of l []) is;
}

pub inner-ends : (old : Live) (n n' : Nesting) (around : Begun) → Waits old.pending n.top.rest → drop n.top.done n.top.script ≡ [] → n.below.items ≡ n'.below.items ++ around ∷ [] →
    n'.top ≡ record around { rest = n.top.rest ++ around.rest } → EndsScript (at_of old (frames_of n)) (at_of old (frames_of n'))
inner-ends old n n' around waits ended below is = record {
  number = n.top.number;
  rest = n.top.rest;
  around = frame_of around ∷ map frame_of (reverse n'.below.items);
  frames = ap (λ (fs : List Frame). frame_of n.top ∷ fs) (frames-below n.below.items n'.below.items around below) ∙ framed-end n.top (frame_of around ∷ map frame_of (reverse n'.below.items)) ended;
  waits = waits;
  is = ap (λ (b : Begun). at_of old (frame_of b ∷ map frame_of (reverse n'.below.items))) is;
}

-- ---- a statement

left-as : (d : Did) (t : Nodes) (a : Statement) (list : List Statement) → LacksBy d t a →
    ((LacksElement t a → ⊥) × (left_by d list ≡ list)) ⊎ (LacksElement t a × (left_by d list ≡ []))
left-as did.All t a list lacks = inl (lacks, refl)
left-as did.Nothing t a list lacks = inr (lacks, refl)

-- how a log has it
abbrev pub AddsOf : Entities → Statement → Live → LogView → LogView → Type 0
AddsOf es a l log log' = log' ≡ with_more (of_statement es l.machine.open_state.quirks l.doc.tree a) log

statement-made : (es : Entities) (k : ℕ) (a : Statement) (list : List Statement) (fs : List Frame) (old new : Live) (rest rest' : List ℕ) (d : Did) (log log' : LogView) →
    old.halted ≡ None → Waits old.pending rest → Does es k a old rest new rest' d → AddsOf es a old log log' → LogsMade es old (framed k (a ∷ list) rest ∷ fs) new (framed k (left_by d list) rest' ∷ fs) log log'
statement-made es k a list fs old new rest rest' d log log' going waits done adds = record {
  more = of_statement es old.machine.open_state.quirks old.doc.tree a;
  adds = adds;
  made = does (at_of old (framed k (a ∷ list) rest ∷ fs)) (at_of new (framed k (left_by d list) rest' ∷ fs)) (of_statement es old.machine.open_state.quirks old.doc.tree a) (record {
    number = k;
    first = a;
    list = list;
    rest = rest;
    around = fs;
    behind = left_by d list;
    wrote = rest';
    going = going;
    frames = refl;
    waits = waits;
    changes = refl;
    left = left-as d old.doc.tree a list done.lacks;
    writes = done.writes;
    doc = done.doc;
    others =
        ap (λ (m : Parser). record (at_of new (framed k (left_by d list) rest' ∷ fs)) { parser = m }) done.machine
        ∙ (ap (λ (r : List ℕ). record (at_of new (framed k (left_by d list) rest' ∷ fs)) { parser = old.machine; rest = r }) done.light.behind
        ∙ ap (λ (p : Option (List ℕ)). record (at_of new (framed k (left_by d list) rest' ∷ fs)) { parser = old.machine; rest = old.rest; pending = p }) done.light.pending);
  });
}

module _ (es : Entities) (old new : Live) (n : Nesting) (a : Statement) (rest' : List ℕ) (d : Did) (log log' : LogView) (going : old.halted ≡ None) (waits : Waits old.pending n.top.rest) (next : NextIs n.top a)
    (done : Does es n.top.number a old n.top.rest new rest' d) (adds : AddsOf es a old log log') where
  abbrev around : List Frame
  around = map frame_of (reverse n.below.items)

  abbrev later : List Statement
  later = drop (n.top.done + 1) n.top.script

  pub step-made : (n' : Nesting) (count : ℕ) → LeftIs n.top d count → n' ≡ record n { top = record n.top { done = count; rest = rest' } } → LogsMade es old (frames_of n) new (frames_of n') log log'
  step-made n' count left is =
      subst (λ (m : Nesting). LogsMade es old (frames_of n) new (frames_of m) log log') (sym is)
      (subst (λ (list : List Statement). LogsMade es old (framed n.top.number list n.top.rest ∷ around) new (framed n.top.number (drop count n.top.script) rest' ∷ around) log log') (sym next)
      (subst (λ (list : List Statement). LogsMade es old (framed n.top.number (a ∷ later) n.top.rest ∷ around) new (framed n.top.number list rest' ∷ around) log log') (sym left)
      (statement-made es n.top.number a later around old new n.top.rest rest' d log log' going waits done adds)))

  -- which refused the page
  pub refused-made : (r : Why) → new.halted ≡ Some r → LogsMade es old (frames_of n) new [] log log'
  refused-made r halted =
      subst (λ (list : List Statement). LogsMade es old (framed n.top.number list n.top.rest ∷ around) new [] log log') (sym next)
      (then_made es (at_of old (framed n.top.number (a ∷ later) n.top.rest ∷ around)) (at_of new (framed n.top.number (left_by d later) rest' ∷ around)) (at_of new []) log log' log'
      (statement-made es n.top.number a later around old new n.top.rest rest' d log log' going waits done adds)
      (given_up es new (framed n.top.number (left_by d later) rest' ∷ around) r log' halted))

-- ---- a text

module _ (es : Entities) (old : Live) (fs : List Frame) (p : Parser) (d : Doc) (left : List ℕ) (s : Stop) (log log' : LogView) (going : old.halted ≡ None) (idle : old.pending ≡ None) (some : text_at (at_of old fs) ≢ [])
    (parsed : HasParsed es old.machine old.doc (text_at (at_of old fs)) p d left s) (adds : log' ≡ with_more (of_text es old.machine (text_at (at_of old fs))) log) where
  -- where the parser stopped
  abbrev stopped : At
  stopped = record (with_left left (at_of old fs)) { parser = p; doc = d }

  text-to : (k : Stop) (b : At) → s ≡ k → StopsBy k stopped b → Made es (at_of old fs) (of_text es old.machine (text_at (at_of old fs))) b
  text-to k b is comes = parses (at_of old fs) b (of_text es old.machine (text_at (at_of old fs))) (record {
    parser = p;
    doc = d;
    left = left;
    stops = s;
    going = going;
    pending = idle;
    some = some;
    parsed = parsed;
    changes = refl;
    comes = subst (λ (j : Stop). StopsBy j stopped b) (sym is) comes;
  })

  pub text-made : (k : Stop) (b : At) → s ≡ k → StopsBy k stopped b → LogsBy (λ more. Made es (at_of old fs) more b) log log'
  text-made k b is comes = record { more = of_text es old.machine (text_at (at_of old fs)); adds = adds; made = text-to k b is comes }

  -- and the script whose end tag was met there ran
  pub text-tag-made : {T E : Type 0} (r : Result T E) (id : NodeId) (b : At) (end : LogView) → s ≡ stop.Script id → OnOk r (LogsBy (λ more. MadeAtTag es id stopped more b) log' end) →
      OnOk r (LogsBy (λ more. Made es (at_of old fs) more b) log end)
  text-tag-made (Ok x) id b end is logs =
      then_by (λ more. more ≡ of_text es old.machine (text_at (at_of old fs))) (λ more. MadeAtTag es id stopped more b) (λ more. Made es (at_of old fs) more b) log log' end
      (λ x y same tag. subst (λ (z : List Change). Made es (at_of old fs) (z ++ y) b) (sym same)
      (follows (at_of old fs) tag.begun b (of_text es old.machine (text_at (at_of old fs))) y (text-to (stop.Script id) tag.begun is tag.prepared) tag.made))
      (record { more = of_text es old.machine (text_at (at_of old fs)); adds = adds; made = refl }) logs
  text-tag-made (Err e) id b end is logs = tt

-- ---- a script

pub tag-made : {T E : Type 0} (r : Result T E) (es : Entities) (id : NodeId) (old mid : Live) (begun : Option Begun) (b : At) (log log' : LogView) → Prepares id old begun mid →
    OnOk r (LogsBy (λ more. Made es (at_of mid (with_begun begun [])) more b) log log') → OnOk r (LogsBy (λ more. MadeAtTag es id (at_of old []) more b) log log')
tag-made (Ok x) es id old mid begun b log log' prepares logs =
    logs_as (λ more. Made es (at_of mid (with_begun begun [])) more b) (λ more. MadeAtTag es id (at_of old []) more b) log log'
    (λ more made. record { begun = at_of mid (with_begun begun []); prepared = prepares.prepared []; made = made }) logs
tag-made (Err e) es id old mid begun b log log' prepares logs = tt

pub script-made : {T E : Type 0} (r : Result T E) (es : Entities) (text : List ℕ) (old mid : Live) (begun : Option Begun) (b : At) (log log' : LogView) → Begins text (awaits_none old) begun mid →
    OnOk r (LogsBy (λ more. Made es (at_of mid (with_begun begun [])) more b) log log') → OnOk r (LogsBy (λ more. MadeByText es (statements text) (at_of old []) more b) log log')
script-made (Ok x) es text old mid begun b log log' begins logs =
    logs_as (λ more. Made es (at_of mid (with_begun begun [])) more b) (λ more. MadeByText es (statements text) (at_of old []) more b) log log'
    (λ more made. record { begun = at_of mid (with_begun begun []); begins = begins.begins []; made = made }) logs
script-made (Err e) es text old mid begun b log log' begins logs = tt

-- of a page that is refused nothing runs
pub unless-refused : (es : Entities) (text : Option (List Statement)) (h : Option Why) (r : Why) (a : At) (log : LogView) → h ≡ Some r → LogsBy (λ more. MadeUnless h es text a more a) log log
unless-refused es text h r a log is =
    subst (λ (k : Option Why). LogsBy (λ more. MadeUnless k es text a more a) log log) (sym is) (record { more = []; adds = none-more log; made = (refl, refl) })

pub unless-going : (es : Entities) (text : Option (List Statement)) (h : Option Why) (a b : At) (log log' : LogView) → h ≡ None → LogsBy (λ more. MadeByText es text a more b) log log' →
    LogsBy (λ more. MadeUnless h es text a more b) log log'
unless-going es text h a b log log' is logs = subst (λ (k : Option Why). LogsBy (λ more. MadeUnless k es text a more b) log log') (sym is) logs

-- ---- the changes lead from the one document to the other

begun-doc : (text : Option (List Statement)) (a b : At) → BeginsBy text a b → b.doc ≡ a.doc
begun-doc None a b is = ap (λ (x : At). x.doc) is
begun-doc (Some list) a b (number, is) = ap (λ (x : At). x.doc) is

prepared-doc : (p : Prepared) (a b : At) → IsPreparedBy p a b → b.doc ≡ a.doc
prepared-doc still a b is = ap (λ (x : At). x.doc) is
prepared-doc (external name) a b is = ap (λ (x : At). x.doc) is
prepared-doc (inline text) a b begins = begun-doc (statements text) a b begins

stopped-doc : (s : Stop) (a b : At) → StopsBy s a b → b.doc ≡ a.doc
stopped-doc stop.InputEnd a b is = ap (λ (x : At). x.doc) is
stopped-doc (stop.Script id) a b prepared = prepared-doc (prepare a.doc.tree (node_of a.doc.bound id)) a b prepared
stopped-doc stop.Deep a b is = ap (λ (x : At). x.doc) is

ended-doc : (rest : List ℕ) (fs : List Frame) (a : At) → (ended_in rest fs a).doc ≡ a.doc
ended-doc rest [] a = refl
ended-doc rest (f ∷ fs) a = refl

pub made_leads : (es : Entities) (a b : At) (more : List Change) → Made es a more b → fold changed a.doc more ≡ b.doc
made_leads es a b _ (nothing p) = refl
made_leads es a b more (follows p mid q x y first next) =
    fold-append changed p.doc x y ∙ (ap (λ (d : Doc). fold changed d y) (made_leads es p mid x first) ∙ made_leads es mid q y next)
made_leads es a b more (parses p q m step) =
    ap (fold changed p.doc) step.changes ∙ (sym step.parsed.doc ∙ sym (stopped-doc step.stops (record (with_left step.left p) { parser = step.parser; doc = step.doc }) q step.comes))
made_leads es a b more (does p q m step) = sym step.doc
made_leads es a b more (ends p q step) = sym (ap (λ (x : At). x.doc) step.is ∙ ended-doc step.rest step.around p)
made_leads es a b more (gives_up p q r halted is) = sym (ap (λ (x : At). x.doc) is)

-- so the log has what leads there
pub logs_lead : (es : Entities) (a b : At) (log log' : LogView) → LogsBy (λ more. Made es a more b) log log' → Logs log a.doc log' b.doc
logs_lead es a b log log' logs = added_logged log log' a.doc b.doc logs.more logs.adds (made_leads es a b logs.more logs.made)

pub tag_leads : (es : Entities) (id : NodeId) (a b : At) (more : List Change) → MadeAtTag es id a more b → fold changed a.doc more ≡ b.doc
tag_leads es id a b more tag =
    ap (λ (d : Doc). fold changed d more) (sym (prepared-doc (prepare a.doc.tree (node_of a.doc.bound id)) a tag.begun tag.prepared)) ∙ made_leads es tag.begun b more tag.made

pub text_leads : (es : Entities) (text : Option (List Statement)) (a b : At) (more : List Change) → MadeByText es text a more b → fold changed a.doc more ≡ b.doc
text_leads es text a b more script =
    ap (λ (d : Doc). fold changed d more) (sym (begun-doc text (record a { pending = None }) script.begun script.begins)) ∙ made_leads es script.begun b more script.made
