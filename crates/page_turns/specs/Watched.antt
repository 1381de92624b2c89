-- What watchers were shown of a page's run.
use Rattle.std.specs.Prelude.{◌≡◌, ℕ, ◌+◌, true, fold, All, List, [], ◌∷◌, ◌++◌, decimal, codes}
use Rattle.std.specs.List.{AllByRecursion}
use Rattle.serial.specs.Output.{json_string}
use Rattle.serial.specs.Scripts.{Fetched}
use Rattle.serial.specs.Serial.{Moment, Passes}
use Rattle.core_definitions.specs.declared.event.Event.{Event}
use Rattle.core_definitions.specs.declared.event.Event.TheVariants.{Do}
use Rattle.core_definitions.specs.Batches.{Piece}
use Rattle.core_definitions.specs.Core.{Setup, whole_page}
use Rattle.core_definitions.specs.Desk.{Desk, pieces_with}
use Rattle.core_definitions.specs.Journal.{IsRunOf}
use Rattle.core_definitions.specs.StandsFor.{StandsFor}
use Rattle.standard.specs.Act.{Doc, new_doc}
use Rattle.standard.specs.Entities.{Entities}
use Rattle.standard.specs.Outer.{document_text}
use Rattle.doc_changes.specs.declared.change.Change.{Change}
use Rattle.doc_changes.specs.Changes.{changed, after, counted}
use Rattle.tree_watch.specs.declared.watcher.Seen.{Seen}
use Rattle.core_steps.specs.Changing.{DoMakes}
use Rattle.core_steps.specs.Sides.{Shown, first_shown, IsReplayed}
use Rattle.page_turns.specs.Along.{Did}

-- the line of what a watcher of that number saw last
abbrev pub watch_text : ℕ → List ℕ → List ℕ
watch_text number text = codes "watch " ++ decimal number ++ codes " " ++ json_string text ++ codes "\n"

-- ---- what who watches is told

-- a document, and as how many the changes count that were made so far
pub record Grown : Type 0 where
  pub doc : Doc
  pub count : ℕ

abbrev pub ungrown : Grown
ungrown = record { doc = new_doc; count = 0 }

abbrev pub grown_by : Grown → List Change → Grown
grown_by g changes = record { doc = fold changed g.doc changes; count = g.count + counted changes }

-- where the document changed it is shown behind those that were
abbrev pub shown_with : List Change → List Doc → Doc → List Doc
shown_with [] shown d = shown
shown_with (c ∷ cs) shown d = shown ++ d ∷ []

-- ---- what the run did

-- The run went on from the one to the other: what the journal had it still has.
pub record GoesOn (earlier later : Shown) : Type 0 where
  pub entities : later.entities ≡ earlier.entities
  pub ahead : later.ahead ≡ earlier.ahead
  pub page : (more : List Piece) × (pieces_with later.journal.pieces later.journal.ending ≡ pieces_with earlier.journal.pieces earlier.journal.ending ++ more)
  pub fetches : (more : List (List ℕ × Fetched)) × (later.journal.fetches ≡ more ++ earlier.journal.fetches)
  pub events : (more : List Event) × (later.journal.events ≡ earlier.journal.events ++ more)

-- The run passed through a state with that document.
pub record Passed (s : Shown) (d : Doc) : Type 0 where
  pub state : Shown
  pub replayed : IsReplayed state
  pub goes_on : GoesOn state s
  pub doc : state.desk.own.side.doc ≡ d

abbrev pub AllPassed : Shown → List Doc → Type 0
AllPassed s shown = AllByRecursion (Passed s) shown

-- none is a Do
abbrev pub AreOthers : List Event → Type 0
AreOthers [] = Unit {0}
AreOthers (Do ∷ events) = ⊥
AreOthers (_ ∷ events) = AreOthers events

-- The run went on without a Do, and the document stayed.
pub record Rests (old new : Shown) : Type 0 where
  pub goes_on : GoesOn old new
  pub others : AreOthers goes_on.events.0
  pub doc : new.desk.own.side.doc ≡ old.desk.own.side.doc

-- The run, so far, made these changes: those that each Do of its journal made, in turn, and no others. So each is among them once.
pub data RunMade : Shown → List Change → Type 0 where
  at_first : (es : Entities) (ahead : ℕ) → RunMade (first_shown es ahead) []
  by_others : (old new : Shown) (changes : List Change) → RunMade old changes → Rests old new → RunMade new changes
  by_do : (old new : Shown) (changes more : List Change) → RunMade old changes → IsReplayed old → Did old new
      → DoMakes old.entities old.journal.fetches old.desk new.desk more → RunMade new (changes ++ more)

-- ---- what who watches was told of it

-- Who watches was told of the changes that the journal's events made, which lead to the document, or of those before the last event, where that is
-- a Do: one that was refused ends the run before any is told of it.
pub data WasTold (s : Shown) (changes : List Change) (d : Doc) : Type 0 where
  of_all : RunMade s changes → d ≡ s.desk.own.side.doc → WasTold s changes d
  of_earlier : (earlier : Shown) → IsReplayed earlier → GoesOn earlier s → s.journal.events ≡ earlier.journal.events ++ Do ∷ []
      → RunMade earlier changes → d ≡ earlier.desk.own.side.doc → WasTold s changes d

-- The same, where they count as many.
pub record HasTold (s : Shown) (g : Grown) : Type 0 where
  pub changes : List Change
  pub count : g.count ≡ counted changes
  pub told : WasTold s changes g.doc

-- What was told is all that the run did, and what was shown are documents that it passed through.
pub record Follows (s : Shown) (g : Grown) (shown : List Doc) : Type 0 where
  pub changes : List Change
  pub run : RunMade s changes
  pub count : g.count ≡ counted changes
  pub doc_is : g.doc ≡ s.desk.own.side.doc
  pub passed : AllPassed s shown

-- ---- what was seen last

-- The text is the document's, and the number is that of the changes; it was seen with the mark.
pub record SeesLast (g : Grown) (x : Seen) : Type 0 where
  pub text : x.text ≡ document_text g.doc.tree
  pub counts : x.changes ≡ g.count
  pub marked : x.last ≡ true

abbrev pub AreLast : Grown → List Seen → Type 0
AreLast g seen = All (SeesLast g) seen

-- The text is the document's, which is the one after the first of the changes, as many as it counts, and those are all; it was seen with the mark.
pub record IsLast (changes : List Change) (doc : Doc) (x : Seen) : Type 0 where
  pub text : x.text ≡ document_text doc.tree
  pub after_first : after changes x.changes ≡ doc
  pub counts : x.changes ≡ counted changes
  pub marked : x.last ≡ true

-- What was seen last is a document that the run passed through, to which the changes lead.
pub record WereLast (s : Shown) (changes : List Change) (doc : Doc) (seen : List Seen) : Type 0 where
  pub passed : Passed s doc
  pub leads : fold changed new_doc changes ≡ doc
  pub each : All (IsLast changes doc) seen

-- In each run in which all is as the journal has it, a document that the run passed through is that of a moment that the serial parse passes
-- through.
abbrev pub PassedStand : Type 0
PassedStand =
    (x : Setup) (s : Shown) (d : Doc) → IsRunOf s.entities s.ahead s.journal x → Passed s d →
    (m : Moment) × Passes (whole_page x) x.world m × (k : Desk) × StandsFor k m × (k.own.side.doc ≡ d)
