-- Pages that are read one behind another, and their counts.
use Rattle.std.proofs.Common.{◌≡◌, ◌≤◌, ◌+◌, ℕ, Bool, true, false, List, [], ◌∷◌, ◌++◌, length, refl, sym, ap, subst, ◌∙◌, inl, inr, arith}
use Rattle.outside.specs.Outside.{Seen, KeepsOthers}
use Rattle.outside.specs.declared.traits.Port.TheVariants.{Page, Script}
use Rattle.outside.proofs.KeepsLemmas.{keeps-same, keeps-then}
use Rattle.page_turns.specs.Given.{Given, unmet, missing, faulted, got}
use Rattle.page_turns.specs.Pages.{PageRead}
use Rattle.page_turns.proofs.KeepsLemmas.{Later, later-others}
use Rattle.page_batch.specs.Reading.{MayRead, ReadsPages, RoseBy, absence_of, absent_among, one_if, failure_of, failed_among}
use Rattle.page_batch.proofs.CountLemmas.{rose-none, rose-one, rose-then, rose-earlier}

-- ---- one behind another

pub reads-past : (paths : List (List ℕ)) (pages : List (Given PageRead)) (before now after : Seen) → KeepsOthers Script before now → ReadsPages paths pages now after → ReadsPages paths pages before after
reads-past [] [] before now after keeps reads = keeps-then Script before now after keeps reads
reads-past (path ∷ paths) (page ∷ pages) before now after keeps (begun, later, past, may, own, rest) = (begun, later, keeps-then Script before now begun keeps past, may, own, rest)
reads-past [] (page ∷ pages) before now after keeps reads = absurd reads
reads-past (path ∷ paths) [] before now after keeps reads = absurd reads

pub reads-then : (paths more : List (List ℕ)) (pages others : List (Given PageRead)) (before now after : Seen) → ReadsPages paths pages before now → ReadsPages more others now after → ReadsPages (paths ++ more) (pages ++ others) before after
reads-then [] more [] others before now after first second = reads-past more others before now after first second
reads-then (path ∷ paths) more (page ∷ pages) others before now after (begun, later, past, may, own, rest) second = (begun, later, past, may, own, reads-then paths more pages others later now after rest second)
reads-then [] more (page ∷ pages) others before now after first second = absurd first
reads-then (path ∷ paths) more [] others before now after first second = absurd first

pub reads-one : (path : List ℕ) (page : Given PageRead) (now after : Seen) → MayRead path now after page → KeepsOthers Page now after → ReadsPages (path ∷ []) (page ∷ []) now after
reads-one path page now after may own = (now, after, keeps-same Script now, may, own, keeps-same Script after)

-- for these memory didn't suffice
abbrev pub all_unmet : List (List ℕ) → List (Given PageRead)
all_unmet [] = []
all_unmet (path ∷ paths) = unmet ∷ all_unmet paths

pub reads-unmet : (paths : List (List ℕ)) (now : Seen) → ReadsPages paths (all_unmet paths) now now
reads-unmet [] now = keeps-same Script now
reads-unmet (path ∷ paths) now = (now, now, keeps-same Script now, tt, keeps-same Page now, reads-unmet paths now)

pub same-count : (paths : List (List ℕ)) (pages : List (Given PageRead)) (before after : Seen) → ReadsPages paths pages before after → length pages ≡ length paths
same-count [] [] before after reads = refl
same-count (path ∷ paths) (page ∷ pages) before after (begun, later, past, may, own, rest) = let is = same-count paths pages later after rest in omega (arith, is)
same-count [] (page ∷ pages) before after reads = absurd reads
same-count (path ∷ paths) [] before after reads = absurd reads

-- ---- the counts

absent-rose : (path : List ℕ) (now after : Seen) (page : Given PageRead) → MayRead path now after page → now.absences Page ≤ after.absences Page → RoseBy (absence_of page) (now.absences Page) (after.absences Page)
absent-rose path now after unmet may le = rose-none (now.absences Page) (after.absences Page) le
absent-rose path now after missing may le = rose-one (now.absences Page) (after.absences Page) may.0
absent-rose path now after faulted may le = rose-none (now.absences Page) (after.absences Page) le
absent-rose path now after (got page) may le = rose-none (now.absences Page) (after.absences Page) le

failed-rose : (path : List ℕ) (now after : Seen) (page : Given PageRead) → MayRead path now after page → now.faults Page ≤ after.faults Page → RoseBy (failure_of page) (now.faults Page) (after.faults Page)
failed-rose path now after unmet may le = rose-none (now.faults Page) (after.faults Page) le
failed-rose path now after missing may le = rose-none (now.faults Page) (after.faults Page) le
failed-rose path now after faulted may le = rose-one (now.faults Page) (after.faults Page) may.0
failed-rose path now after (got page) may le = by page.fault refl
  where
    by : (b : Bool) → page.fault ≡ b → RoseBy (one_if b) (now.faults Page) (after.faults Page)
    by true is = rose-one (now.faults Page) (after.faults Page) (may.0.cause is)
    by false is = rose-none (now.faults Page) (after.faults Page) le

-- no count falls
pub reads-on : (paths : List (List ℕ)) (pages : List (Given PageRead)) (before after : Seen) → ReadsPages paths pages before after → Later before after
reads-on [] [] before after reads = later-others Script before after reads
reads-on (path ∷ paths) (page ∷ pages) before after (begun, later, past, may, own, rest) =
    let on = reads-on paths pages later after rest in
    record {
      files = on.files ∙ (own.files ∙ past.files);
      faults = λ p. let a = past.faults p in let b = own.faults p in let c = on.faults p in omega (arith, a, b, c);
      absences = λ p. let a = past.absences p in let b = own.absences p in let c = on.absences p in omega (arith, a, b, c);
    }
reads-on [] (page ∷ pages) before after reads = absurd reads
reads-on (path ∷ paths) [] before after reads = absurd reads

pub absences-rose : (paths : List (List ℕ)) (pages : List (Given PageRead)) (before after : Seen) → ReadsPages paths pages before after → RoseBy (absent_among pages) (before.absences Page) (after.absences Page)
absences-rose [] [] before after reads = rose-none (before.absences Page) (after.absences Page) (reads.absences Page)
absences-rose (path ∷ paths) (page ∷ pages) before after (begun, later, past, may, own, rest) =
    let on = reads-on paths pages later after rest in
    rose-then (absence_of page) (absent_among pages) (before.absences Page) (later.absences Page) (after.absences Page)
    (rose-earlier (absence_of page) (before.absences Page) (begun.absences Page) (later.absences Page) (past.absences Page) (absent-rose path begun later page may (own.absences Page)))
    (absences-rose paths pages later after rest) (on.absences Page)
absences-rose [] (page ∷ pages) before after reads = absurd reads
absences-rose (path ∷ paths) [] before after reads = absurd reads

pub faults-rose : (paths : List (List ℕ)) (pages : List (Given PageRead)) (before after : Seen) → ReadsPages paths pages before after → RoseBy (failed_among pages) (before.faults Page) (after.faults Page)
faults-rose [] [] before after reads = rose-none (before.faults Page) (after.faults Page) (reads.faults Page)
faults-rose (path ∷ paths) (page ∷ pages) before after (begun, later, past, may, own, rest) =
    let on = reads-on paths pages later after rest in
    rose-then (failure_of page) (failed_among pages) (before.faults Page) (later.faults Page) (after.faults Page)
    (rose-earlier (failure_of page) (before.faults Page) (begun.faults Page) (later.faults Page) (past.faults Page) (failed-rose path begun later page may (own.faults Page)))
    (faults-rose paths pages later after rest) (on.faults Page)
faults-rose [] (page ∷ pages) before after reads = absurd reads
faults-rose (path ∷ paths) [] before after reads = absurd reads
