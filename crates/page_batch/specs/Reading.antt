-- The pages of a list, as they are read.
use Rattle.std.specs.Prelude.{◌≡◌, ◌⊎◌, ◌+◌, ◌≤◌, ◌^◌, ℕ, Bool, true, false, List, [], ◌∷◌, ◌++◌, length, Some, None, IfSome}
use Rattle.outside.specs.Outside.{Begun, Seen, KeepsOthers}
use Rattle.outside.specs.declared.traits.Port.TheVariants.{Page, Script}
use Rattle.page_turns.specs.declared.page.TheConstants.{PAGE_LIMIT}
use Rattle.page_turns.specs.Given.{Given, unmet, missing, faulted, got, FaultsRose, NoFault, AbsencesRose, file_at}
use Rattle.page_turns.specs.Pages.{PageRead, GivenFirst}
use Rattle.page_batch.specs.declared.read.PageBytes.{PageBytes}
use Rattle.page_batch.specs.declared.read.PageFile.{PageFile}
use Rattle.page_batch.specs.declared.read.PageFile.TheVariants as files

abbrev pub read_of : PageBytes → PageRead
read_of page = record { bytes = page.bytes.items; fault = page.fault }

abbrev pub given_in : PageFile → Given PageRead
given_in files.Missing = missing
given_in files.Faulted = faulted
given_in (files.Read page) = got (read_of page)

-- What was read of a file: all of it, or as much as goes to one byte past the limit, and no call failed; or where a read failed what was given
-- before that, and the port has left the rest.
pub record IsReadOf (path : List ℕ) (now after : Seen) (page : PageRead) : Type 0 where
  pub whole : page.fault ≡ false → IfSome (file_at now path) (λ f. (rest : List ℕ) × (f ≡ Some (page.bytes ++ rest)) × ((rest ≡ []) ⊎ (length page.bytes ≡ PAGE_LIMIT + 1)))
  pub no_fault : page.fault ≡ false → NoFault Page now after
  pub cut : page.fault ≡ true → IfSome (file_at now path) (λ f. (rest : List ℕ) × (f ≡ Some (page.bytes ++ rest)) × (after.left Page ≡ Some rest))
  pub cause : page.fault ≡ true → FaultsRose Page now after
  pub first : page.fault ≡ true → GivenFirst now after page.bytes
  pub at_most : length page.bytes ≤ PAGE_LIMIT + 1

-- What may come of the page at the path, from where it is begun. `unmet`: memory ran out.
abbrev pub MayRead : List ℕ → Seen → Seen → Given PageRead → Type 0
MayRead path now after unmet = Unit {0}
MayRead path now after missing = AbsencesRose Page now after × IfSome (file_at now path) (λ file. file ≡ None) × NoFault Page now after × (after.open_at Page ≡ false)
MayRead path now after faulted = FaultsRose Page now after × IfSome (after.left Page) (λ rest. rest ≡ []) × (after.open_at Page ≡ false)
MayRead path now after (got page) = IsReadOf path now after page × (after.open_at Page ≡ true)

-- The pages were begun and read one behind another, each between two moments of its own, and between them scripts alone.
abbrev pub ReadsPages : List (List ℕ) → List (Given PageRead) → Seen → Seen → Type 0
ReadsPages [] [] before after = KeepsOthers Script before after
ReadsPages (path ∷ paths) (page ∷ pages) before after =
    (now : Seen) × (later : Seen) × KeepsOthers Script before now × MayRead path now later page × KeepsOthers Page now later × ReadsPages paths pages later after
ReadsPages paths pages before after = ⊥

-- ---- the counts

-- It rose by so much at least, or stands at the last value of a u64.
abbrev pub RoseBy : ℕ → ℕ → ℕ → Type 0
RoseBy n before after = (before + n ≤ after) ⊎ (2 ^ 64 ≤ after + 1)

abbrev pub absence_of : Given PageRead → ℕ
absence_of missing = 1
absence_of unmet = 0
absence_of faulted = 0
absence_of (got page) = 0

-- how many pages aren't there
abbrev pub absent_among : List (Given PageRead) → ℕ
absent_among [] = 0
absent_among (page ∷ pages) = absence_of page + absent_among pages

abbrev pub one_if : Bool → ℕ
one_if true = 1
one_if false = 0

abbrev pub failure_of : Given PageRead → ℕ
failure_of missing = 0
failure_of unmet = 0
failure_of faulted = 1
failure_of (got page) = one_if page.fault

-- how many couldn't be begun, or had a read that failed
abbrev pub failed_among : List (Given PageRead) → ℕ
failed_among [] = 0
failed_among (page ∷ pages) = failure_of page + failed_among pages
