-- A page of a batch, over one round and over many.
use Rattle.std.proofs.Common.{◌≡◌, ◌<◌, ◌+◌, ℕ, suc, List, [], ◌∷◌, ◌++◌, flat_map, length, Option, Some, None, refl, sym, ap, subst, ◌∙◌, arith}
use Rattle.std.specs.List.{AllByRecursion}
use Rattle.std.specs.Prelude.{slice_index_or}
use Rattle.standard.specs.Entities.{Entities}
use Rattle.serial.specs.Scripts.{Fetched}
use Rattle.serial.specs.Output.{line_text}
use Rattle.core_pair.specs.Pairs.{Paired}
use Rattle.core_steps.specs.Journals.{found}
use Rattle.page_turns.specs.Given.{Given}
use Rattle.page_turns.specs.Pages.{PageRead}
use Rattle.page_turns.specs.Scripts.{Met}
use Rattle.page_batch.specs.declared.going.Part.{Part}
use Rattle.page_batch.specs.declared.read.PageBytes.{PageBytes}
use Rattle.page_batch.specs.Reading.{read_of}
use Rattle.page_batch.specs.Going.{AreOf, IsGoing, IsFirst, used_of}
use Rattle.page_batch.specs.Slots.{Slotted, IsPart, HasPart, GoesOn}
use Rattle.page_batch.specs.Rounds.{GoOnEach, Runs, RunsAll}
use Rattle.page_batch.specs.Windows.{files_in, HaveParts, IsNew, AreSettled}

pub first-going : (es : Entities) (page : PageBytes) (p : Paired) (t : List ℕ) → IsFirst es page p → t ≡ [] → IsGoing es (read_of page) p t
first-going es page p t first none = record { of = first.of; text_is = none ∙ ap (flat_map line_text) (sym first.given) }

-- ---- the table grows

abbrev pub IsPartOf : Met → Met → Type 0
IsPartOf table table' = (name : List ℕ) (f : Fetched) → found name table ≡ Some f → found name table' ≡ Some f

pub of-larger : (table table' used : Met) → IsPartOf table table' → AreOf table used → AreOf table' used
of-larger table table' [] more all = tt
of-larger table table' (f ∷ fs) more all = (more f.0 f.1 all.0, of-larger table table' fs more all.1)

-- from a fact of each place to one of each item
pub go-on-each : (table : Met) (xs ys : List Slotted) → length ys ≡ length xs
    → ((i : ℕ) (d : Slotted) → i < length xs → GoesOn table (slice_index_or xs i d) (slice_index_or ys i d)) → GoOnEach table xs ys
go-on-each table [] [] len at = tt
go-on-each table (x ∷ xs) (y ∷ ys) len at = (at 0 x (omega arith), go-on-each table xs ys (omega (arith, len)) (λ i d lt. at (suc i) d (omega (arith, lt))))
go-on-each table [] (y ∷ ys) len at = absurd (omega (arith, len))
go-on-each table (x ∷ xs) [] len at = absurd (omega (arith, len))

pub goes-at : (table : Met) (a b x y : Slotted) → a ≡ x → b ≡ y → GoesOn table a b → GoesOn table x y
goes-at table a b x y here there goes = subst (λ z. GoesOn table z y) here (subst (λ z. GoesOn table a z) there goes)

-- ---- rounds

pub runs-none : (table : Met) (xs : List Slotted) → RunsAll table table xs xs
runs-none table [] = tt
runs-none table (x ∷ xs) = (record { page = refl; known = λ k. k }, runs-none table xs)

pub runs-on : (table table' : Met) (xs ys zs : List Slotted) → RunsAll table table' xs ys → GoOnEach table' ys zs → RunsAll table table' xs zs
runs-on table table' [] [] [] all each = tt
runs-on table table' (x ∷ xs) (y ∷ ys) (z ∷ zs) (one, all) (goes, each) = (
  record { page = goes.page ∙ one.page; known = λ k. goes.known (one.known k) },
  runs-on table table' xs ys zs all each,
)
runs-on table table' [] (y ∷ ys) zs all each = absurd all
runs-on table table' (x ∷ xs) [] zs all each = absurd all
runs-on table table' [] [] (z ∷ zs) all each = absurd each
runs-on table table' (x ∷ xs) (y ∷ ys) [] all each = absurd each

-- scripts were fetched
pub runs-larger : (table now later : Met) (xs ys : List Slotted) → IsPartOf now later → RunsAll table now xs ys → RunsAll table later xs ys
runs-larger table now later [] [] more all = tt
runs-larger table now later (x ∷ xs) (y ∷ ys) more (one, all) = (record { page = one.page; known = λ k. of-larger now later y.used more (one.known k) }, runs-larger table now later xs ys more all)
runs-larger table now later [] (y ∷ ys) more all = absurd all
runs-larger table now later (x ∷ xs) [] more all = absurd all

-- ---- the parts of pages that ran

settled-one : (es : Entities) (table table' : Met) (old new : Slotted) (part : Part) → IsNew old → Runs table table' old new → HasPart es new part → IsPart es old.page part × AreOf table' (used_of part.journal)
settled-one es table table' old new part fresh runs has = (
  subst (λ page. IsPart es page part) runs.page has.is,
  subst (AreOf table') (sym has.used) (runs.known (subst (AreOf table) (sym fresh) tt)),
)

-- slots as they were read, and as they ran
pub parts-settled : (es : Entities) (table table' : Met) (olds news : List Slotted) (parts : List Part) → AllByRecursion IsNew olds → RunsAll table table' olds news → HaveParts es news parts → AreSettled es table' (files_in olds) parts
parts-settled es table table' [] [] [] fresh all have = tt
parts-settled es table table' (x ∷ xs) (y ∷ ys) (p ∷ parts) (new, fresh) (runs, all) (has, have) =
    let one = settled-one es table table' x y p new runs has in (one.0, one.1, parts-settled es table table' xs ys parts fresh all have)
parts-settled es table table' [] (y ∷ ys) parts fresh all have = absurd all
parts-settled es table table' (x ∷ xs) [] parts fresh all have = absurd all
parts-settled es table table' [] [] (p ∷ parts) fresh all have = absurd have
parts-settled es table table' (x ∷ xs) (y ∷ ys) [] fresh all have = absurd have

-- those of a front of these are over
pub record FrontSettled (es : Entities) (table : Met) (pages : List (Given PageRead)) (parts : List Part) : Type 0 where
  pub settled_pages : List (Given PageRead)
  pub others : List (Given PageRead)
  pub is : pages ≡ settled_pages ++ others
  pub settled : AreSettled es table settled_pages parts

pub front-settled : (es : Entities) (table table' : Met) (olds front rest : List Slotted) (parts : List Part) → AllByRecursion IsNew olds → RunsAll table table' olds (front ++ rest) → HaveParts es front parts → FrontSettled es table' (files_in olds) parts
front-settled es table table' olds [] rest [] fresh all have = record { settled_pages = []; others = files_in olds; is = refl; settled = tt }
front-settled es table table' (x ∷ xs) (y ∷ ys) rest (p ∷ parts) (new, fresh) (runs, all) (has, have) =
    let one = settled-one es table table' x y p new runs has in
    let behind = front-settled es table table' xs ys rest parts fresh all have in
    record {
      settled_pages = x.page ∷ behind.settled_pages;
      others = behind.others;
      is = ap (λ pages. x.page ∷ pages) behind.is;
      settled = (one.0, one.1, behind.settled);
    }
front-settled es table table' [] (y ∷ ys) rest parts fresh all have = absurd all
front-settled es table table' olds [] rest (p ∷ parts) fresh all have = absurd have
front-settled es table table' (x ∷ xs) (y ∷ ys) rest [] fresh all have = absurd have

pub runs-count : (table table' : Met) (xs ys : List Slotted) → RunsAll table table' xs ys → length ys ≡ length xs
runs-count table table' [] [] all = refl
runs-count table table' (x ∷ xs) (y ∷ ys) (runs, all) = ap suc (runs-count table table' xs ys all)
runs-count table table' [] (y ∷ ys) all = absurd all
runs-count table table' (x ∷ xs) [] all = absurd all
