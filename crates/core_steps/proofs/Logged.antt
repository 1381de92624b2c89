-- What a Do adds to a log, part by part.
use Rattle.std.proofs.Common.{◌≡◌, ◌∙◌, Bool, true, false, ℕ, List, [], ◌++◌, fold, Option, Some, None, Result, Ok, Err, OnOk, refl, sym, ap, subst, append-nil}
use Rattle.html_types.specs.declared.ending.Ending.{Ending}
use Rattle.standard.specs.Entities.{Entities}
use Rattle.serial.specs.Scripts.{Fetched, got, missing, faulted, file_statements}
use Rattle.serial.specs.declared.script.Statement.{Statement}
use Rattle.core_definitions.specs.Batches.{Batch, Piece, answer}
use Rattle.core_definitions.specs.Settling.{is_empty}
use Rattle.core_definitions.specs.Desk.{Desk}
use Rattle.doc_changes.specs.declared.change.Change.{Change}
use Rattle.doc_changes.specs.Changes.{changed}
use Rattle.doc_changes.specs.Logs.{LogView, with_more, Logs}
use Rattle.doc_changes.proofs.Logs.{added_logged}
use Rattle.write_parser.specs.Made.{of_text, of_ending, At, at_view, Made, follows, MadeAtTag, MadeByText, MadeUnless, LogsBy}
use Rattle.write_parser.proofs.MadeLemmas.{none-more, then_by, logs_as, made_leads, tag_leads, text_leads}
use Rattle.speculation.specs.declared.batch.Halt as code
use Rattle.html_types.specs.declared.operation.NodeId.{NodeId}
use Rattle.html_types.specs.declared.ending.Why.{Why}
use Rattle.standard.specs.Parser.{Parser}
use Rattle.core_definitions.specs.declared.verdict.Verdict.{Verdict}
use Rattle.core_definitions.specs.declared.verdict.Verdict.TheVariants.{Keep, Rewind}
use Rattle.write_parser.specs.Writing.{View, HasMissed}
use Rattle.core_steps.specs.declared.side.Side.{Side}
use Rattle.core_steps.specs.declared.stage.Stage.{Stage}
use Rattle.core_steps.specs.declared.stage.Stage.TheVariants.{Free, Tagged, Waits, Done}
use Rattle.core_steps.specs.Sides.{phase_of, desk_of, StandsIn, IsSound}
use Rattle.core_steps.specs.Acting.{at_stage, free_hand, Executed, MeetsTag, JudgedAs, Judged, met}
use Rattle.core_steps.specs.Changing.{of_first, MadeByFile, ReachesView, MadeFirst, MadeIn, PendsIn, HaltsIn, ReachesDesk, DoMakes, LogsDo}
use Rattle.core_steps.proofs.Hands.{first-of-text, ending-alone}

-- ---- the document stays where no batch is executed and no script runs

pub met_doc : (b : Bool) (i : NodeId) (old new : Side) → MeetsTag b i old new → new.writer.doc ≡ old.writer.doc
met_doc false i old new meets = ap (λ (s : Side). s.writer.doc) meets
met_doc true i old new meets = ap (λ (s : Side). s.writer.doc) meets

-- nor does what is written change, nor which script is pending
abbrev pub LeavesText : View → View → Type 0
LeavesText old new = (new.doc ≡ old.doc) × (new.rest ≡ old.rest) × (new.pending ≡ old.pending) × (new.halted ≡ old.halted)

pub side-leaves : (old new : Side) → new.writer ≡ old.writer → LeavesText old.writer new.writer
side-leaves old new is = (ap (λ (v : View). v.doc) is, ap (λ (v : View). v.rest) is, ap (λ (v : View). v.pending) is, ap (λ (v : View). v.halted) is)

judged-as-leaves : (c : Verdict) (held : Parser) (old new : Side) → JudgedAs c held old new → LeavesText old.writer new.writer
judged-as-leaves Keep held old new judged =
    (ap (λ (s : Side). s.writer.doc) judged, ap (λ (s : Side). s.writer.rest) judged, ap (λ (s : Side). s.writer.pending) judged, ap (λ (s : Side). s.writer.halted) judged)
judged-as-leaves Rewind held old new judged =
    (ap (λ (s : Side). s.writer.doc) judged, ap (λ (s : Side). s.writer.rest) judged, ap (λ (s : Side). s.writer.pending) judged, ap (λ (s : Side). s.writer.halted) judged)

pub judged-leaves : (held : Parser) (old new : Side) → Judged held old new → LeavesText old.writer new.writer
judged-leaves held old new judged = judged-as-leaves judged.0 held old new judged.2

-- ---- a batch

-- the first of what a piece comes to: of its text, and of the ending that it carries
pub text-first : (es : Entities) (p : Parser) (x : Piece) → is_empty x.text ≡ false → of_text es p x.text ≡ of_first (answer es (Some p) x).batches
text-first es p x some = sym (ap of_first (first-of-text es p x.text x.ending some).1)

pub ending-first : (es : Entities) (p : Parser) (x : Piece) (e : Ending) → x.text ≡ [] → x.ending ≡ Some e → of_ending es e p ≡ of_first (answer es (Some p) x).batches
ending-first es p x e none carries =
    sym (ap of_first (ap (λ (t : List ℕ). (answer es (Some p) (record x { text = t })).batches) none
    ∙ (ap (λ (o : Option Ending). (answer es (Some p) (record { text = []; ending = o })).batches) carries ∙ ending-alone es p e)))

-- it was executed, and what its end asks for leaves the document as it is
pub executed-made : (old mid new : Side) (h : code.Halt) (log log' : LogView) → Executed old h mid → new.writer.doc ≡ mid.writer.doc → log' ≡ with_more (of_first (free_hand old)) log →
    LogsBy (λ more. MadeFirst (free_hand old) old.writer more new.writer) log log'
executed-made old mid new h log log' x same adds = record {
  more = of_first (free_hand old);
  adds = adds;
  made = record {
    changes = refl;
    leads = ap (λ (bs : List Batch). fold changed old.writer.doc (of_first bs)) x.hand ∙ (sym (ap (λ (s : Side). s.writer.doc) x.is) ∙ sym same);
  };
}

-- ---- a script

-- what was written was parsed, and the document is left so
pub reaches : (Makes : List Change → At → Type 0) (mid new : View) (log log' : LogView) → LeavesText mid new → LogsBy (λ more. Makes more (at_view mid)) log log' →
    LogsBy (λ more. ReachesView Makes more new) log log'
reaches Makes mid new log log' same logs =
    logs_as (λ more. Makes more (at_view mid)) (λ more. ReachesView Makes more new) log log'
    (λ more made. record { stands = at_view mid; makes = made; doc_is = sym same.0; rest_is = sym same.1; ended = refl; pending = sym same.2; halted = sym same.3 }) logs

-- behind what a script did
module _ {T E : Type 0} (r : Result T E) (es : Entities) (mid : At) (new : View) (a b c : LogView) where
  pub behind-tag : (i : NodeId) (from : At) → LogsBy (λ more. MadeAtTag es i from more mid) a b → OnOk r (LogsBy (λ more. ReachesView (Made es mid) more new) b c) →
      OnOk r (LogsBy (λ more. ReachesView (MadeAtTag es i from) more new) a c)
  behind-tag i from first next = by r next
    where
      by : (s : Result T E) → OnOk s (LogsBy (λ more. ReachesView (Made es mid) more new) b c) → OnOk s (LogsBy (λ more. ReachesView (MadeAtTag es i from) more new) a c)
      by (Ok x) next =
          then_by (λ more. MadeAtTag es i from more mid) (λ more. ReachesView (Made es mid) more new) (λ more. ReachesView (MadeAtTag es i from) more new) a b c
          (λ x y tag reach. record {
            stands = reach.stands;
            makes = record { begun = tag.begun; prepared = tag.prepared; made = follows tag.begun mid reach.stands x y tag.made reach.makes };
            doc_is = reach.doc_is;
            rest_is = reach.rest_is;
            ended = reach.ended;
            pending = reach.pending;
            halted = reach.halted;
          }) first next
      by (Err e) next = tt

  pub behind-text : (text : Option (List Statement)) (halted : Option Why) (from : At) → halted ≡ None → LogsBy (λ more. MadeUnless halted es text from more mid) a b →
      OnOk r (LogsBy (λ more. ReachesView (Made es mid) more new) b c) → OnOk r (LogsBy (λ more. ReachesView (MadeByText es text from) more new) a c)
  behind-text text halted from going first next = by r (subst (λ (h : Option Why). LogsBy (λ more. MadeUnless h es text from more mid) a b) going first) next
    where
      by : (s : Result T E) → LogsBy (λ more. MadeByText es text from more mid) a b → OnOk s (LogsBy (λ more. ReachesView (Made es mid) more new) b c) →
          OnOk s (LogsBy (λ more. ReachesView (MadeByText es text from) more new) a c)
      by (Ok x) first next =
          then_by (λ more. MadeByText es text from more mid) (λ more. ReachesView (Made es mid) more new) (λ more. ReachesView (MadeByText es text from) more new) a b c
          (λ x y script reach. record {
            stands = reach.stands;
            makes = record { begun = script.begun; begins = script.begins; made = follows script.begun mid reach.stands x y script.made reach.makes };
            doc_is = reach.doc_is;
            rest_is = reach.rest_is;
            ended = reach.ended;
            pending = reach.pending;
            halted = reach.halted;
          }) first next
      by (Err e) first next = tt

-- a script that is missing is awaited no more
missed-at : (name : List ℕ) (old new : View) → old.halted ≡ None → old.pending ≡ Some name → HasMissed old.halted old.pending old new → at_view new ≡ record (at_view old) { pending = None }
missed-at name old new going awaited missed =
    let is : HasMissed None (Some name) old new =
    subst (λ (p : Option (List ℕ)). HasMissed None p old new) awaited (subst (λ (h : Option Why). HasMissed h old.pending old new) going missed) in
    ap at_view is

pub missed-made : {T E : Type 0} (r : Result T E) (name : List ℕ) (before old : Side) (mid new : View) (log log' : LogView) → before ≡ old → old.writer.halted ≡ None → old.writer.pending ≡ Some name →
    HasMissed before.writer.halted before.writer.pending before.writer mid → OnOk r (LogsBy (λ more. ReachesView (Made before.table (at_view mid)) more new) log log') →
    OnOk r (LogsBy (λ more. ReachesView (MadeByFile missing old.table (at_view old.writer)) more new) log log')
missed-made r name before old mid new log log' is going awaited missed logs =
    subst (λ (s : Side). OnOk r (LogsBy (λ more. ReachesView (MadeByFile missing s.table (at_view s.writer)) more new) log log')) is
    (subst (λ (a : At). OnOk r (LogsBy (λ more. ReachesView (Made before.table a) more new) log log'))
    (missed-at name before.writer mid (ap (λ (s : Side). s.writer.halted) is ∙ going) (ap (λ (s : Side). s.writer.pending) is ∙ awaited) missed) logs)

-- the parse is over
pub faulted-made : (es : Entities) (old new : View) (log : LogView) → LeavesText old new → LogsBy (λ more. ReachesView (MadeByFile faulted es (at_view old)) more new) log log
faulted-made es old new log same = record {
  more = [];
  adds = none-more log;
  made = record { stands = at_view old; makes = (refl, refl); doc_is = sym same.0; rest_is = sym same.1; ended = refl; pending = sym same.2; halted = sym same.3 };
}

-- what was found of it
pub file-made : {T E : Type 0} (r : Result T E) (name : List ℕ) (old : Side) (f : Fetched) (new : View) (log log' : LogView) → met old name ≡ f →
    OnOk r (LogsBy (λ more. ReachesView (MadeByFile f old.table (at_view old.writer)) more new) log log') →
    OnOk r (LogsBy (λ more. ReachesView (MadeByFile (met old name) old.table (at_view old.writer)) more new) log log')
file-made r name old f new log log' is logs =
    subst (λ (g : Fetched). OnOk r (LogsBy (λ more. ReachesView (MadeByFile g old.table (at_view old.writer)) more new) log log')) (sym is) logs

-- ---- as a desk has it

view-at : (v : View) (awaited : Option (List ℕ)) → v.pending ≡ awaited → v.halted ≡ None →
    at_view v ≡ record { parser = v.parser; doc = v.doc; rest = v.rest ++ []; frames = []; pending = awaited; halted = None }
view-at v awaited pending going =
    ap (λ (h : Option Why). record (at_view v) { halted = h }) going
    ∙ (ap (λ (p : Option (List ℕ)). record (at_view v) { pending = p; halted = None }) pending
    ∙ ap (λ (rest : List ℕ). record (at_view v) { rest = rest; pending = awaited; halted = None }) (sym (append-nil v.rest)))

file-leads : (f : Fetched) (es : Entities) (a b : At) (more : List Change) → MadeByFile f es a more b → fold changed a.doc more ≡ b.doc
file-leads (got bytes) es a b more made = text_leads es (file_statements bytes) a b more made
file-leads missing es a b more made = made_leads es (record a { pending = None }) b more made
file-leads faulted es a b more (none, is) = ap (fold changed a.doc) none ∙ sym (ap (λ (x : At). x.doc) is)

-- the page isn't refused, unless the parse is over
pub sound-halts : (s : Side) → IsSound s → HaltsIn (desk_of s).phase s.writer.halted
sound-halts s sound = by s.stage sound.stands
  where
    by : (t : Stage) → StandsIn t s.counts.realm s.writer → HaltsIn (phase_of t) s.writer.halted
    by Free stands = stands.idle.halted
    by (Tagged i held) stands = stands.idle.halted
    by (Waits name held) stands = stands.halted
    by (Done why in_hand) stands = tt

-- the script that is pending is the one that is awaited, unless the parse is over
pub sound-pends : (s : Side) → IsSound s → PendsIn (desk_of s).phase s.writer.pending
sound-pends s sound = by s.stage sound.stands
  where
    by : (t : Stage) → StandsIn t s.counts.realm s.writer → PendsIn (phase_of t) s.writer.pending
    by Free stands = stands.idle.pending
    by (Tagged i held) stands = stands.idle.pending
    by (Waits name held) stands = stands.pending
    by (Done why in_hand) stands = tt

-- the same text, of which nothing of the page is behind
reaches-desk : (Makes : List Change → At → Type 0) (more : List Change) (v : View) (d : Desk) → d.own.side.doc ≡ v.doc → d.own.input ≡ v.rest ++ [] → PendsIn d.phase v.pending → HaltsIn d.phase v.halted →
    ReachesView Makes more v → ReachesDesk Makes more d
reaches-desk Makes more v d doc input pends halts reach = record {
  stands = reach.stands;
  makes = reach.makes;
  doc_is = reach.doc_is ∙ sym doc;
  rest_is = reach.rest_is ∙ sym (input ∙ append-nil v.rest);
  ended = reach.ended;
  pending = subst (PendsIn d.phase) (sym reach.pending) pends;
  halted = subst (HaltsIn d.phase) (sym reach.halted) halts;
}

module _ (s mid : Side) (d : Desk) (more : List Change) (doc : d.own.side.doc ≡ mid.writer.doc) (input : d.own.input ≡ mid.writer.rest ++ []) (pends : PendsIn d.phase mid.writer.pending)
    (halts : HaltsIn d.phase mid.writer.halted) where
  do-makes : (stage : Stage) → IsSound (at_stage stage s) → MadeIn stage s more mid → DoMakes s.table s.journal.fetches (desk_of (at_stage stage s)) d more
  do-makes Free sound made = record { changes = made.changes; leads = made.leads ∙ sym doc }
  do-makes (Tagged i held) sound made = record {
    changes = subst (λ (a : At). ReachesDesk (MadeAtTag s.table i a) more d) (view-at s.writer None sound.stands.idle.pending sound.stands.idle.halted)
        (reaches-desk (MadeAtTag s.table i (at_view s.writer)) more mid.writer d doc input pends halts made);
    leads = tag_leads s.table i (at_view s.writer) made.stands more made.makes ∙ (made.doc_is ∙ sym doc);
  }
  do-makes (Waits name held) sound made = record {
    changes = subst (λ (a : At). ReachesDesk (MadeByFile (met s name) s.table a) more d) (view-at s.writer (Some name) sound.stands.pending sound.stands.halted)
        (reaches-desk (MadeByFile (met s name) s.table (at_view s.writer)) more mid.writer d doc input pends halts made);
    leads = file-leads (met s name) s.table (at_view s.writer) made.stands more made.makes ∙ (made.doc_is ∙ sym doc);
  }
  do-makes (Done w in_hand) sound made = absurd made

-- the stage was taken out of the side before
pub taken-makes : (old : Side) (stage freed : Stage) (mid : Side) (d : Desk) (log log' : LogView) → stage ≡ old.stage → IsSound old → d.own.side.doc ≡ mid.writer.doc → d.own.input ≡ mid.writer.rest ++ [] →
    PendsIn d.phase mid.writer.pending → HaltsIn d.phase mid.writer.halted → LogsBy (λ more. MadeIn stage (at_stage freed old) more mid) log log' → LogsBy (DoMakes old.table old.journal.fetches (desk_of old) d) log log'
taken-makes old stage freed mid d log log' value sound doc input pends halts logs =
    logs_as (λ more. MadeIn stage (at_stage freed old) more mid) (DoMakes old.table old.journal.fetches (desk_of old) d) log log'
    (λ more made. do-makes (at_stage freed old) mid d more doc input pends halts old.stage sound (subst (λ (t : Stage). MadeIn t (at_stage freed old) more mid) value made)) logs

-- so the log has what leads there
pub do-logs : (es : Entities) (fetches : List (List ℕ × Fetched)) (d d' : Desk) (log log' : LogView) → LogsDo es fetches d d' log log' → Logs log d.own.side.doc log' d'.own.side.doc
do-logs es fetches d d' log log' logs = added_logged log log' d.own.side.doc d'.own.side.doc logs.more logs.adds logs.made.leads
