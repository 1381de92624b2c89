-- The pages of a batch, each as far as it is.
use Rattle.std.specs.Prelude.{◌≡◌, ℕ, List, [], Option, Some, None}
use Rattle.standard.specs.Entities.{Entities}
use Rattle.core_steps.specs.Journals.{found}
use Rattle.page_turns.specs.Given.{Given, unmet, missing, faulted, got}
use Rattle.page_turns.specs.Scripts.{Met}
use Rattle.page_turns.specs.Pages.{PageRead}
use Rattle.page_batch.specs.declared.read.PageFile.{PageFile}
use Rattle.page_batch.specs.declared.going.Part.{Part}
use Rattle.page_batch.specs.declared.slot.Stage.{Stage}
use Rattle.page_batch.specs.declared.slot.Stage.TheVariants.{Unread, Waits, Over, Spent}
use Rattle.page_batch.specs.Going.{AreOf, IsGoing, Settled, used_of}
use Rattle.page_batch.specs.Reading.{read_of, given_in}

-- A page's part is that of its parse. One that isn't there has a number alone, and so has one that can't be begun.
abbrev pub IsPart : Entities → Given PageRead → Part → Type 0
IsPart es unmet part = ⊥
IsPart es missing part = (part.number ≡ 9) × (part.text.items ≡ []) × (part.journal ≡ None)
IsPart es faulted part = (part.number ≡ 7) × (part.text.items ≡ []) × (part.journal ≡ None)
IsPart es (got read) part = Settled es read (used_of part.journal) part.number part.text.items

-- ---- stages

abbrev pub IsStage : {E : Type 0} → Entities → Given PageRead → Stage E → Type 0
IsStage es page (Unread bytes) = page ≡ got (read_of bytes)
IsStage es page (Waits going) = (read : PageRead) × (page ≡ got read) × IsGoing es read going.pair going.text.items
IsStage es page (Over part) = IsPart es page part
IsStage es page Spent = Unit {0}

-- the scripts with which it was parsed so far
abbrev pub used_in : {E : Type 0} → Stage E → Met
used_in (Unread bytes) = []
used_in (Waits going) = going.pair.journal.fetches
used_in (Over part) = used_of part.journal
used_in Spent = []

abbrev pub awaited_in : {E : Type 0} → Stage E → Option (List ℕ)
awaited_in (Unread bytes) = None
awaited_in (Waits going) = Some going.awaits
awaited_in (Over part) = None
awaited_in Spent = None

-- a script that is awaited isn't in the table
abbrev pub AwaitsNew : Met → Option (List ℕ) → Type 0
AwaitsNew table None = Unit {0}
AwaitsNew table (Some name) = found name table ≡ None

-- it went on as far as the table lets it
pub record NextOf {E : Type 0} (es : Entities) (table : Met) (old new : Stage E) : Type 0 where
  pub stays : (page : Given PageRead) → IsStage es page old → IsStage es page new
  pub known : AreOf table (used_in old) → AreOf table (used_in new)
  pub awaits : AwaitsNew table (awaited_in new)

-- ---- slots

-- What a contract sees of a page of a batch: what was read of it, the scripts with which it was parsed so far, and the one that it awaits.
pub record Slotted : Type 0 where
  pub page : Given PageRead
  pub used : Met
  pub awaits : Option (List ℕ)

abbrev pub slotted : {E : Type 0} → PageFile → Stage E → Slotted
slotted file stage = record { page = given_in file; used = used_in stage; awaits = awaited_in stage }

pub record GoesOn (table : Met) (old new : Slotted) : Type 0 where
  pub page : new.page ≡ old.page
  pub known : AreOf table old.used → AreOf table new.used
  pub awaits : AwaitsNew table new.awaits

-- it is over, with this part
pub record HasPart (es : Entities) (slot : Slotted) (part : Part) : Type 0 where
  pub is : IsPart es slot.page part
  pub used : used_of part.journal ≡ slot.used
