-- The two sides of a page, on their way.
use Rattle.std.specs.Prelude.{◌≡◌, ◌≤◌, ◌<◌, ℕ, false, List, [], ◌∷◌, ◌++◌, flat_map, Option, Some, None}
use Rattle.std.specs.List.{AllByRecursion}
use Rattle.std.specs.declared.snapshot.Snapshot.{Snapshot}
use Rattle.standard.specs.Entities.{Entities}
use Rattle.serial.specs.declared.script.Line.{Line}
use Rattle.serial.specs.Scripts.{Fetched}
use Rattle.serial.specs.Serial.{World, Outcome}
use Rattle.serial.specs.Output.{line_text, output}
use Rattle.core_definitions.specs.declared.event.Event.{Event}
use Rattle.core_definitions.specs.Core.{whole_page}
use Rattle.core_definitions.specs.Desk.{done}
use Rattle.core_definitions.specs.Journal.{Journal, Knows}
use Rattle.core_steps.specs.Journals.{found}
use Rattle.core_steps.specs.Sides.{left_to_do}
use Rattle.core_pair.specs.Nearer.{NearsDo, IsNearer}
use Rattle.core_pair.specs.Pairs.{Paired, setup_of, stepped}
use Rattle.page_turns.specs.Scripts.{Met}
use Rattle.page_turns.specs.Pages.{PageRead, page_at, ComesTo}
use Rattle.parse_machine.specs.Ends.{result_of}
use Rattle.page_batch.specs.declared.read.PageBytes.{PageBytes}
use Rattle.page_batch.specs.declared.going.Stop.{Stop}
use Rattle.page_batch.specs.declared.going.Stop.TheVariants.{Over, Awaits}
use Rattle.page_batch.specs.declared.going.Turn.{Turn}
use Rattle.page_batch.specs.declared.going.Turn.TheVariants.{Went, Stopped}
use Rattle.page_batch.specs.Parts.{end_number}
use Rattle.page_batch.specs.Reading.{read_of}

-- ---- events

pub record StepTaken (event : Event) (old new : Paired) : Type 0 where
  pub is : new ≡ stepped event new.core old
  pub nearer : IsNearer event old.core new.core

-- the page, what was fetched and the lines that were taken stay
pub record SamePage (old new : Paired) : Type 0 where
  pub entities : new.entities ≡ old.entities
  pub pieces : new.journal.pieces ≡ old.journal.pieces
  pub ending : new.ending ≡ old.ending
  pub given : new.given ≡ old.given
  pub spent : new.spent ≡ old.spent
  pub fetches : new.journal.fetches ≡ old.journal.fetches

pub record Nears (old new : Paired) : Type 0 where
  pub same : SamePage old new
  pub nears : NearsDo old.core new.core

-- the script of that name arrived
pub record Receives (name : List ℕ) (f : Fetched) (old new : Paired) : Type 0 where
  pub entities : new.entities ≡ old.entities
  pub pieces : new.journal.pieces ≡ old.journal.pieces
  pub ending : new.ending ≡ old.ending
  pub given : new.given ≡ old.given
  pub spent : new.spent ≡ old.spent
  pub fetches : new.journal.fetches ≡ (name, f) ∷ old.journal.fetches
  pub left : left_to_do new.core.desk ≡ left_to_do old.core.desk

-- ---- how far it went

-- what was fetched is in the table
abbrev pub AreOf : Met → Met → Type 0
AreOf table = AllByRecursion (λ (fetch : List ℕ × Fetched). found fetch.0 table ≡ Some fetch.1)

-- The page stays. Scripts of the table arrived, and lines were taken, whose text stands behind what stood there.
pub record GoesBy (table : Met) (old new : Paired) (text text' : List ℕ) : Type 0 where
  pub entities : new.entities ≡ old.entities
  pub pieces : new.journal.pieces ≡ old.journal.pieces
  pub ending : new.ending ≡ old.ending
  pub spent : new.spent ≡ old.spent
  pub met : Met
  pub fetches : new.journal.fetches ≡ met ++ old.journal.fetches
  pub known : AreOf table met
  pub lines : List Line
  pub given : new.given ≡ old.given ++ lines
  pub text_is : text' ≡ text ++ flat_map line_text lines

-- where it stops its parse is over, or it awaits a script that isn't in the table
abbrev pub StopsAt : Met → Paired → Stop → Type 0
StopsAt table p (Over outcome) = p.core.desk.phase ≡ done (result_of outcome)
StopsAt table p (Awaits name) = found name table ≡ None

abbrev pub TurnEnds : Met → Paired → Paired → Turn → Type 0
TurnEnds table old new Went = left_to_do new.core.desk < left_to_do old.core.desk
TurnEnds table old new (Stopped stop) = StopsAt table new stop

-- ---- what is known of it

-- it is of that page, and memory lasts
pub record IsOf (es : Entities) (read : PageRead) (p : Paired) : Type 0 where
  pub entities : p.entities ≡ es
  pub going : p.spent ≡ false
  pub page : whole_page (setup_of p) ≡ page_at read

-- the text is that of the lines that were taken
pub record IsGoing (es : Entities) (read : PageRead) (p : Paired) (text : List ℕ) : Type 0 where
  pub of : IsOf es read p
  pub text_is : text ≡ flat_map line_text p.given

-- before any event
pub record IsFirst (es : Entities) (page : PageBytes) (p : Paired) : Type 0 where
  pub of : IsOf es (read_of page) p
  pub given : p.given ≡ []
  pub fetches : p.journal.fetches ≡ []

abbrev pub used_of : Option (Snapshot Journal) → Met
used_of None = []
used_of (Some journal) = journal.value.fetches

-- In each world with these entities, and in which what was fetched is as it was, the page's serial parse comes to this text and number.
pub record Settled (es : Entities) (read : PageRead) (used : Met) (number : ℕ) (text : List ℕ) : Type 0 where
  pub each : (w : World) → w.entities ≡ es → Knows used w → (o : Outcome) → ComesTo w read o → (text ≡ output o) × (number ≡ end_number o.result)
