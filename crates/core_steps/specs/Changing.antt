-- The changes that a Do makes: which they are, and that each is made once.
use Rattle.std.specs.Prelude.{◌≡◌, ℕ, List, [], ◌∷◌, fold, Option, Some, None}
use Rattle.html_types.specs.declared.ending.Why.{Why}
use Rattle.standard.specs.Entities.{Entities}
use Rattle.standard.specs.Act.{Doc}
use Rattle.serial.specs.Scripts.{Fetched, got, missing, faulted, file_statements}
use Rattle.core_definitions.specs.Batches.{Batch}
use Rattle.core_definitions.specs.Desk.{Phase, free, tagged, waits, done, Desk}
use Rattle.doc_changes.specs.declared.change.Change.{Change}
use Rattle.doc_changes.specs.declared.change.Change.TheVariants.{Did}
use Rattle.doc_changes.specs.Changes.{changed}
use Rattle.doc_changes.specs.Logs.{LogView}
use Rattle.write_parser.specs.Made.{At, at_view, Made, MadeAtTag, MadeByText, LogsBy}
use Rattle.write_parser.specs.Writing.{View}
use Rattle.core_steps.specs.declared.stage.Stage.{Stage}
use Rattle.core_steps.specs.declared.stage.Stage.TheVariants.{Free, Tagged, Waits, Done}
use Rattle.core_steps.specs.declared.side.Side.{Side}
use Rattle.core_steps.specs.Acting.{free_hand, fetch_or_missing, met}
use Rattle.core_steps.specs.Journals.{found}

-- of the first batch
abbrev pub of_first : List Batch → List Change
of_first [] = []
of_first (b ∷ bs) = Did b.ops ∷ []

-- what comes of an awaited script's file; unless that can't be read, the script is awaited no more
abbrev pub MadeByFile : Fetched → Entities → At → List Change → At → Type 0
MadeByFile (got bytes) es a = MadeByText es (file_statements bytes) a
MadeByFile missing es a = Made es (record a { pending = None })
MadeByFile faulted es a = λ more b. (more ≡ []) × (b ≡ a)

-- They are made so: behind them no script is left, the document is that, so much written text isn't used, a script is pending so, or none, and the
-- page is refused so, or not.
pub record Reaches (Makes : List Change → At → Type 0) (Pends : Option (List ℕ) → Type 0) (Halts : Option Why → Type 0) (more : List Change) (doc : Doc) (rest : List ℕ) : Type 0 where
  pub stands : At
  pub makes : Makes more stands
  pub doc_is : stands.doc ≡ doc
  pub rest_is : stands.rest ≡ rest
  pub ended : stands.frames ≡ []
  pub pending : Pends stands.pending
  pub halted : Halts stands.halted

-- ---- of what the document's side holds

abbrev pub ReachesView : (List Change → At → Type 0) → List Change → View → Type 0
ReachesView Makes more v = Reaches Makes (λ p. p ≡ v.pending) (λ h. h ≡ v.halted) more v.doc v.rest

-- a batch is executed
pub record MadeFirst (hand : List Batch) (old : View) (more : List Change) (new : View) : Type 0 where
  pub changes : more ≡ of_first hand
  pub leads : fold changed old.doc more ≡ new.doc

abbrev pub MadeIn : Stage → Side → List Change → Side → Type 0
MadeIn Free old more new = MadeFirst (free_hand old) old.writer more new.writer
MadeIn (Tagged i held) old more new = ReachesView (MadeAtTag old.table i (at_view old.writer)) more new.writer
MadeIn (Waits name held) old more new = ReachesView (MadeByFile (met old name) old.table (at_view old.writer)) more new.writer
MadeIn (Done why in_hand) old more new = ⊥

-- ---- of a desk

-- the `src` of the script that is awaited
abbrev pub awaited_in : Phase → Option (List ℕ)
awaited_in (waits name held) = Some name
awaited_in _ = None

-- at level 0
abbrev pub at_desk : Desk → At
at_desk d = record { parser = d.own.parser; doc = d.own.side.doc; rest = d.own.input; frames = []; pending = awaited_in d.phase; halted = None }

-- that script is pending, or none, unless the parse is over
abbrev pub PendsIn : Phase → Option (List ℕ) → Type 0
PendsIn (waits name held) pending = pending ≡ Some name
PendsIn (done r) pending = Unit {0}
PendsIn _ pending = pending ≡ None

-- it isn't refused unless the parse is over
abbrev pub HaltsIn : Phase → Option Why → Type 0
HaltsIn (done r) halted = Unit {0}
HaltsIn _ halted = halted ≡ None

abbrev pub ReachesDesk : (List Change → At → Type 0) → List Change → Desk → Type 0
ReachesDesk Makes more d = Reaches Makes (PendsIn d.phase) (HaltsIn d.phase) more d.own.side.doc d.own.input

abbrev pub ChangesIn : Phase → Entities → List (List ℕ × Fetched) → Desk → List Change → Desk → Type 0
ChangesIn free es fetches d more d' = more ≡ of_first d.hand
ChangesIn (tagged i held) es fetches d more d' = ReachesDesk (MadeAtTag es i (at_desk d)) more d'
ChangesIn (waits name held) es fetches d more d' =
    ReachesDesk (MadeByFile (fetch_or_missing (found name fetches)) es (at_desk d)) more d'
ChangesIn (done r) es fetches d more d' = ⊥

-- A Do made these changes from the one desk to the other.
pub record DoMakes (es : Entities) (fetches : List (List ℕ × Fetched)) (d d' : Desk) (more : List Change) : Type 0 where
  pub changes : ChangesIn d.phase es fetches d more d'
  pub leads : fold changed d.own.side.doc more ≡ d'.own.side.doc

-- the log gained them
abbrev pub LogsDo : Entities → List (List ℕ × Fetched) → Desk → Desk → LogView → LogView → Type 0
LogsDo es fetches d d' log log' = LogsBy (DoMakes es fetches d d') log log'
