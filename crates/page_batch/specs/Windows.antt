-- Windows of a list: the pages of each are read, run and written before the next.
use Rattle.std.specs.Prelude.{◌≡◌, ◌≤◌, ◌<◌, ℕ, List, [], ◌∷◌, ◌++◌, length, map, take, Option, Some, Result, IfOk, OnErr, IsErrOf}
use Rattle.std.specs.List.{AllByRecursion}
use Rattle.outside.specs.Outside.{Begun, Seen, KeepsOthers, Rose}
use Rattle.outside.specs.declared.traits.Port.TheVariants.{Page}
use Rattle.standard.specs.Entities.{Entities}
use Rattle.page_turns.specs.declared.page.TheConstants.{PAGE_LIMIT}
use Rattle.page_turns.specs.declared.page.Failure.{Failure}
use Rattle.page_turns.specs.declared.page.Failure.TheVariants.{Write}
use Rattle.page_turns.specs.Calls.{EachWithin}
use Rattle.page_turns.specs.Given.{Given, KeepsEntities}
use Rattle.page_turns.specs.Pages.{PageRead}
use Rattle.page_turns.specs.Taken.{Took, TookFront}
use Rattle.page_turns.specs.Scripts.{Met}
use Rattle.page_batch.specs.declared.going.Part.{Part}
use Rattle.page_batch.specs.Parts.{page_line, status_line}
use Rattle.page_batch.specs.Reading.{ReadsPages}
use Rattle.page_batch.specs.Going.{AreOf, used_of}
use Rattle.page_batch.specs.Slots.{Slotted, IsPart, HasPart}
use Rattle.page_batch.specs.Rounds.{FetchesMore}

abbrev pub written_of : List ℕ → Part → List ℕ
written_of path part = page_line path ++ part.text.items ++ status_line part.number

abbrev pub texts_of : List (List ℕ) → List Part → List ℕ
texts_of [] parts = []
texts_of (path ∷ paths) [] = []
texts_of (path ∷ paths) (part ∷ parts) = written_of path part ++ texts_of paths parts

-- the pages of slots
abbrev pub files_in : List Slotted → List (Given PageRead)
files_in = map (λ (slot : Slotted). slot.page)

-- each is over, with this part
abbrev pub HaveParts : Entities → List Slotted → List Part → Type 0
HaveParts es [] [] = Unit {0}
HaveParts es (slot ∷ slots) (part ∷ parts) = HasPart es slot part × HaveParts es slots parts
HaveParts es slots parts = ⊥

-- nothing was done with it yet
abbrev pub IsNew : Slotted → Type 0
IsNew slot = slot.used ≡ []

-- As many pages of the front of the paths were read, and nothing else was done.
pub record ReadsFront (paths : List (List ℕ)) (pages : List (Given PageRead)) (before after : Seen) : Type 0 where
  pub front : length pages ≤ length paths
  pub reads : ReadsPages (take (length pages) paths) pages before after
  pub begun : Begun (before.begun Page) (after.begun Page) (take (length pages) paths)
  pub within : EachWithin PAGE_LIMIT Page before after
  pub others : KeepsOthers Page before after

-- memory ran out
abbrev pub ReadsInPart : List (List ℕ) → Seen → Seen → Type 0
ReadsInPart paths before after = (pages : List (Given PageRead)) × ReadsFront paths pages before after

-- each is over, and its part was written
pub record WritesAll (es : Entities) (paths : List (List ℕ)) (slots : List Slotted) (taken taken' : Option (List ℕ)) : Type 0 where
  pub parts : List Part
  pub have : HaveParts es slots parts
  pub took : Took taken taken' (texts_of paths parts)

-- those of the front are, and a front of that was written
pub record WritesInPart (es : Entities) (paths : List (List ℕ)) (slots : List Slotted) (taken taken' : Option (List ℕ)) : Type 0 where
  pub front : List Slotted
  pub rest : List Slotted
  pub is : slots ≡ front ++ rest
  pub parts : List Part
  pub have : HaveParts es front parts
  pub took : TookFront taken taken' (texts_of paths parts)

-- each is settled, by scripts of the table
abbrev pub AreSettled : Entities → Met → List (Given PageRead) → List Part → Type 0
AreSettled es met [] [] = Unit {0}
AreSettled es met (page ∷ pages) (part ∷ parts) = IsPart es page part × AreOf met (used_of part.journal) × AreSettled es met pages parts
AreSettled es met pages parts = ⊥

-- The pages at these paths were read, run, and their parts written.
pub record RunsWindow (es : Entities) (dir : List ℕ) (paths : List (List ℕ)) (before after : Seen) (table table' : Met) (taken taken' : Option (List ℕ)) : Type 0 where
  pub pages : List (Given PageRead)
  pub reads : ReadsPages paths pages before after
  pub begun : Begun (before.begun Page) (after.begun Page) paths
  pub within : EachWithin PAGE_LIMIT Page before after
  pub keeps : KeepsEntities before after
  pub fetches : FetchesMore [] dir before after table table'
  pub parts : List Part
  pub settled : AreSettled es table' pages parts
  pub took : Took taken taken' (texts_of paths parts)

-- Memory ran out or the sink failed: the pages of a front of the paths were begun, those of a front of these are settled, and a front of their parts
-- was written.
pub record StopsInWindow (es : Entities) (dir : List ℕ) (paths : List (List ℕ)) (before after : Seen) (table table' : Met) (taken taken' : Option (List ℕ)) : Type 0 where
  pub front : List (List ℕ)
  pub behind : List (List ℕ)
  pub is : paths ≡ front ++ behind
  pub settled_pages : List (Given PageRead)
  pub others : List (Given PageRead)
  pub reads : ReadsPages front (settled_pages ++ others) before after
  pub begun : Begun (before.begun Page) (after.begun Page) front
  pub within : EachWithin PAGE_LIMIT Page before after
  pub keeps : KeepsEntities before after
  pub unmet : List (List ℕ)
  pub fetches : FetchesMore unmet dir before after table table'
  pub parts : List Part
  pub settled : AreSettled es table' settled_pages parts
  pub took : TookFront taken taken' (texts_of front parts)

-- Of a window so many pages were run and their parts written, or it was left in its midst.
pub record EndsWindow {X : Type 0} (result : Result ℕ X) (es : Entities) (dir : List ℕ) (paths : List (List ℕ)) (before after : Seen) (table table' : Met) (taken taken' : Option (List ℕ)) : Type 0 where
  pub ran : IfOk result (λ n. RunsWindow es dir (take n paths) before after table table' taken taken')
  pub stopped : OnErr result (StopsInWindow es dir paths before after table table' taken taken')

-- A failure to write is one that the sink counted, and its count never falls.
pub record CountsFaults {X : Type 0} (result : Result X Failure) (old new : ℕ) : Type 0 where
  pub write : IsErrOf result Write → Rose old new
  pub never_less : old ≤ new
