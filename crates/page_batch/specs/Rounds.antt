-- Rounds: pages go on side by side, and scripts are fetched between.
use Rattle.std.specs.Prelude.{◌≡◌, ◌+◌, ℕ, List, [], ◌∷◌, Some, None, Result, OnOk, OnErr}
use Rattle.std.specs.List.{AllByRecursion}
use Rattle.outside.specs.Outside.{Seen, KeepsOthers}
use Rattle.outside.specs.declared.traits.Port.TheVariants.{Script}
use Rattle.serial.specs.Scripts.{Fetched, got, missing, faulted}
use Rattle.page_turns.specs.Scripts.{Met, folder_with, Fetches, AreKnown}
use Rattle.page_batch.specs.Going.{AreOf}
use Rattle.page_batch.specs.Reading.{RoseBy}
use Rattle.page_batch.specs.Slots.{Slotted, GoesOn}

-- each of them went on
abbrev pub GoOnEach : Met → List Slotted → List Slotted → Type 0
GoOnEach table [] [] = Unit {0}
GoOnEach table (old ∷ olds) (new ∷ news) = GoesOn table old new × GoOnEach table olds news
GoOnEach table olds news = ⊥

-- The page is the same, and what it was parsed with is in the table.
pub record Runs (table table' : Met) (old new : Slotted) : Type 0 where
  pub page : new.page ≡ old.page
  pub known : AreOf table old.used → AreOf table' new.used

abbrev pub RunsAll : Met → Met → List Slotted → List Slotted → Type 0
RunsAll table table' [] [] = Unit {0}
RunsAll table table' (old ∷ olds) (new ∷ news) = Runs table table' old new × RunsAll table table' olds news
RunsAll table table' olds news = ⊥

-- no page awaits a script
abbrev pub NoneAwaits : List Slotted → Type 0
NoneAwaits = AllByRecursion (λ (slot : Slotted). slot.awaits ≡ None)

-- ---- scripts that were fetched

abbrev pub is_faulted : Fetched → ℕ
is_faulted (got bytes) = 0
is_faulted missing = 0
is_faulted faulted = 1

-- how many names had a fetch that failed
abbrev pub faulted_among : Met → ℕ
faulted_among [] = 0
faulted_among (f ∷ fs) = is_faulted f.1 + faulted_among fs

-- Scripts were fetched, each once; from fetching those that are `unmet` nothing came, since memory ran out. The count of faults rose by as many as
-- had a fetch that failed.
pub record FetchesMore (unmet : List (List ℕ)) (dir : List ℕ) (before after : Seen) (old new : Met) : Type 0 where
  pub fetches : Fetches unmet (folder_with dir []) before after old new
  pub known : AreKnown old → AreKnown new
  pub more : ℕ
  pub count : faulted_among new ≡ more + faulted_among old
  pub rose : RoseBy more (before.faults Script) (after.faults Script)

-- memory ran out perhaps
abbrev pub FetchesOrSpends : List ℕ → Seen → Seen → Met → Met → Type 0
FetchesOrSpends dir before after old new = (unmet : List (List ℕ)) × FetchesMore unmet dir before after old new

-- What a call leaves that fetches scripts: each was fetched, or memory ran out; nothing else was
-- done.
pub record LeavesFetched {X Y : Type 0} (result : Result X Y) (dir : List ℕ) (before after : Seen) (old new : Met) : Type 0 where
  pub fetched : OnOk result (FetchesMore [] dir before after old new)
  pub spent : OnErr result (FetchesOrSpends dir before after old new)
  pub others : KeepsOthers Script before after
