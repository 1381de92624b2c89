-- What a batch answers: the pages that were met, in the list's order, each parsed with the one table of scripts.
use Rattle.std.specs.Prelude.{◌≡◌, ℕ, List, [], ◌∷◌, ◌++◌, Option, Some}
use Rattle.std.specs.List.{AllByRecursion}
use Rattle.outside.specs.Outside.{Begun, Seen}
use Rattle.outside.specs.declared.traits.Port.TheVariants.{Page, Script}
use Rattle.standard.specs.Entities.{Entities}
use Rattle.serial.specs.Scripts.{Fetched, faulted as faulted_script}
use Rattle.serial.specs.Serial.{World, Outcome}
use Rattle.core_steps.specs.Journals.{found}
use Rattle.page_turns.specs.declared.page.TheConstants.{PAGE_LIMIT}
use Rattle.page_turns.specs.declared.scripts.TheConstants.{SCRIPT_LIMIT}
use Rattle.page_turns.specs.Calls.{EachWithin}
use Rattle.page_turns.specs.Given.{Given, unmet, missing, faulted, got, KeepsEntities}
use Rattle.page_turns.specs.Pages.{PageRead, world_of, ComesTo}
use Rattle.page_turns.specs.Scripts.{Met, folder_with, AreKnown, AreScriptsOf, ReadScriptsTo, NamesOnce}
use Rattle.page_turns.specs.Taken.{Took, TookFront}
use Rattle.page_batch.specs.Parts.{batch_text}
use Rattle.page_batch.specs.Reading.{ReadsPages, RoseBy, absent_among, failed_among}
use Rattle.page_batch.specs.Rounds.{faulted_among}

-- what came of each page, by its serial parse where it was read
abbrev pub IsOutcome : World → Given PageRead → Given Outcome → Type 0
IsOutcome w unmet o = o ≡ unmet
IsOutcome w missing o = o ≡ missing
IsOutcome w faulted o = o ≡ faulted
IsOutcome w (got read) o = (outcome : Outcome) × (o ≡ got outcome) × ComesTo w read outcome

abbrev pub AreOutcomes : World → List (Given PageRead) → List (Given Outcome) → Type 0
AreOutcomes w [] [] = Unit {0}
AreOutcomes w (page ∷ pages) (o ∷ os) = IsOutcome w page o × AreOutcomes w pages os
AreOutcomes w pages os = ⊥

abbrev pub IsMet : Given PageRead → Type 0
IsMet unmet = ⊥
IsMet missing = Unit {0}
IsMet faulted = Unit {0}
IsMet (got page) = Unit {0}

-- a front of these was begun, in order, and nothing else at the port
pub record BeginsFront (paths : List (List ℕ)) (before after : Seen) : Type 0 where
  pub front : List (List ℕ)
  pub rest : List (List ℕ)
  pub is : paths ≡ front ++ rest
  pub begun : Begun (before.begun Page) (after.begun Page) front

-- The pages of a list, those that memory didn't suffice for `unmet`. One table of scripts serves them all, so no page's outcome depends on another
-- page but for that.
pub record Batched (es : Entities) (dir : List ℕ) (paths : List (List ℕ)) (before after : Seen) : Type 0 where
  pub scripts : List ℕ → Fetched
  pub are_scripts : AreScriptsOf (folder_with dir []) before after scripts
  pub pages : List (Given PageRead)
  pub read : ReadsPages paths pages before after
  pub outcomes : List (Given Outcome)
  pub parsed : AreOutcomes (world_of es scripts) pages outcomes
  -- the names that were fetched
  pub met : Met
  pub known : AreKnown met
  pub faulted_there : (name : List ℕ) → scripts name ≡ faulted_script → found name met ≡ Some faulted_script
  -- the counts
  pub absent : RoseBy (absent_among pages) (before.absences Page) (after.absences Page)
  pub failed : RoseBy (failed_among pages) (before.faults Page) (after.faults Page)
  pub unfetched : RoseBy (faulted_among met) (before.faults Script) (after.faults Script)
  -- what was begun, and how far each was read
  pub begins : BeginsFront paths before after
  pub names : NamesOnce dir (before.begun Script) (after.begun Script)
  pub within : EachWithin PAGE_LIMIT Page before after
  pub scripts_to : ReadScriptsTo SCRIPT_LIMIT dir before after
  pub scripts_within : EachWithin SCRIPT_LIMIT Script before after
  pub keeps : KeepsEntities before after

-- All pages were met, and the text of the batch was written.
abbrev pub GivesAll : Entities → List ℕ → List (List ℕ) → Seen → Seen → Option (List ℕ) → Option (List ℕ) → Type 0
GivesAll es dir paths before after taken taken' =
    (b : Batched es dir paths before after) × AllByRecursion IsMet b.pages × Took taken taken' (batch_text paths b.outcomes)

-- a front of it was written
abbrev pub GivesInPart : Entities → List ℕ → List (List ℕ) → Seen → Seen → Option (List ℕ) → Option (List ℕ) → Type 0
GivesInPart es dir paths before after taken taken' = (b : Batched es dir paths before after) × TookFront taken taken' (batch_text paths b.outcomes)
