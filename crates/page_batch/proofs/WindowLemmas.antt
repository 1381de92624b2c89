-- Windows one behind another, and what they come to.
use Rattle.std.proofs.Common.{◌≡◌, ◌≤◌, ◌+◌, ℕ, suc, List, [], ◌∷◌, ◌++◌, length, Option, Some, None, refl, sym, ap, subst, ◌∙◌, append_assoc, append-nil, arith, inl, inr}
use Rattle.std.specs.Prelude.{◌⊎◌, IfSome}
use Rattle.standard.specs.Entities.{Entities}
use Rattle.standard_laws.proofs.Total.{has_outcome}
use Rattle.outside.specs.Outside.{Begun, Seen}
use Rattle.outside.specs.declared.traits.Port.TheVariants.{Page, Script}
use Rattle.serial.specs.Scripts.{Fetched, got as got_script, missing as missing_script, faulted as faulted_script}
use Rattle.serial.specs.Serial.{World, Outcome}
use Rattle.core_steps.specs.Journals.{found}
use Rattle.page_turns.specs.declared.page.TheConstants.{PAGE_LIMIT}
use Rattle.page_turns.specs.declared.scripts.TheConstants.{SCRIPT_LIMIT}
use Rattle.page_turns.specs.Calls.{EachWithin}
use Rattle.page_turns.specs.Given.{Given, unmet, missing, faulted, got, AbsencesRose, file_at, KeepsEntities}
use Rattle.page_turns.specs.Pages.{PageRead, page_at, world_of}
use Rattle.page_turns.specs.Scripts.{Met, Alike, folder_with, path_of, IsAbsent, MayCome, AreKnown, AreScriptsOf, MayMeet, Fetches}
use Rattle.page_turns.specs.Taken.{Took, TookFront}
use Rattle.page_turns.proofs.CallLemmas.{each_none, each_then}
use Rattle.page_turns.proofs.KeepsLemmas.{begun_none, begun_then, entities-same, entities-then, later-entities}
use Rattle.page_turns.proofs.PageTakenLemmas.{took_nothing, took_then, front_then, front_longer, front_of_all}
use Rattle.page_turns.proofs.ReachLemmas.{found_or, scripts_with}
use Rattle.page_turns.proofs.SameWorlds.{alike-refl, alike-sym}
use Rattle.outside.proofs.KeepsLemmas.{keeps-same}
use Rattle.page_batch.specs.declared.going.Part.{Part}
use Rattle.page_batch.specs.Reading.{ReadsPages}
use Rattle.page_batch.specs.Parts.{part_of, batch_text}
use Rattle.page_batch.specs.Going.{AreOf, used_of}
use Rattle.page_batch.specs.Rounds.{faulted_among, FetchesMore}
use Rattle.page_batch.specs.Windows.{written_of, texts_of, AreSettled, RunsWindow, StopsInWindow}
use Rattle.page_batch.specs.Batches.{IsOutcome, AreOutcomes, Batched, GivesAll, GivesInPart}
use Rattle.page_batch.proofs.CountLemmas.{rose-is}
use Rattle.page_batch.proofs.FetchLemmas.{more-none, more-then}
use Rattle.page_batch.proofs.OutcomeLemmas.{settled-then, outcomes_of, are-outcomes, all-met, same-text, none_of, unmet-outcomes, outcomes-then}
use Rattle.page_batch.proofs.PagesLemmas.{reads-then, same-count, all_unmet, reads-unmet, absences-rose, faults-rose}
use Rattle.page_batch.proofs.SlotLemmas.{of-larger}

-- ---- texts

pub texts-then : (paths more : List (List ℕ)) (parts others : List Part) → length parts ≡ length paths → texts_of (paths ++ more) (parts ++ others) ≡ texts_of paths parts ++ texts_of more others
texts-then [] more [] others len = refl
texts-then (path ∷ paths) more (part ∷ parts) others len =
    ap (λ t. written_of path part ++ t) (texts-then paths more parts others (omega (arith, len))) ∙ sym (append_assoc (written_of path part) (texts_of paths parts) (texts_of more others))
texts-then [] more (part ∷ parts) others len = absurd (omega (arith, len))
texts-then (path ∷ paths) more [] others len = absurd (omega (arith, len))

-- fewer parts than paths
pub texts-front : (paths more : List (List ℕ)) (parts : List Part) → length parts ≤ length paths → texts_of (paths ++ more) parts ≡ texts_of paths parts
texts-front [] [] [] le = refl
texts-front [] (path ∷ more) [] le = refl
texts-front [] more (part ∷ parts) le = absurd (omega (arith, le))
texts-front (path ∷ paths) more [] le = refl
texts-front (path ∷ paths) more (part ∷ parts) le = ap (λ t. written_of path part ++ t) (texts-front paths more parts (omega (arith, le)))

settled-count : (es : Entities) (met : Met) (pages : List (Given PageRead)) (parts : List Part) → AreSettled es met pages parts → length parts ≡ length pages
settled-count es met [] [] all = refl
settled-count es met (page ∷ pages) (part ∷ parts) (is, of, rest) = ap suc (settled-count es met pages parts rest)
settled-count es met [] (part ∷ parts) all = absurd all
settled-count es met (page ∷ pages) [] all = absurd all

pub settled-larger : (es : Entities) (met met' : Met) (pages : List (Given PageRead)) (parts : List Part) → ((name : List ℕ) (f : Fetched) → found name met ≡ Some f → found name met' ≡ Some f) → AreSettled es met pages parts → AreSettled es met' pages parts
settled-larger es met met' [] [] more all = tt
settled-larger es met met' (page ∷ pages) (part ∷ parts) more (is, of, rest) = (is, of-larger met met' (used_of part.journal) more of, settled-larger es met met' pages parts more rest)
settled-larger es met met' [] (part ∷ parts) more all = absurd all
settled-larger es met met' (page ∷ pages) [] more all = absurd all

-- ---- one behind another

pub window-none : (es : Entities) (dir : List ℕ) (before : Seen) (table : Met) (t : Option (List ℕ)) → RunsWindow es dir [] before before table table t t
window-none es dir before table t = record {
  pages = [];
  reads = keeps-same Script before;
  begun = begun_none (before.begun Page) (before.begun Page) refl;
  within = each_none PAGE_LIMIT Page before before refl;
  keeps = entities-same before;
  fetches = more-none [] dir before table;
  parts = [];
  settled = tt;
  took = took_nothing t;
}

module _ (es : Entities) (dir : List ℕ) (paths more : List (List ℕ)) (before now after : Seen) (a b c : Met) (t u v : Option (List ℕ)) (first : RunsWindow es dir paths before now a b t u) where
  counted : length first.parts ≡ length paths
  counted = settled-count es b first.pages first.parts first.settled ∙ same-count paths first.pages before now first.reads

  pub window-then : RunsWindow es dir more now after b c u v → RunsWindow es dir (paths ++ more) before after a c t v
  window-then second = record {
    pages = first.pages ++ second.pages;
    reads = reads-then paths more first.pages second.pages before now after first.reads second.reads;
    begun = begun_then (before.begun Page) (now.begun Page) (after.begun Page) paths more first.begun second.begun;
    within = each_then PAGE_LIMIT Page before now after first.within second.within;
    keeps = entities-then before now after first.keeps second.keeps;
    fetches = more-then [] dir before now after a b c (later-entities before now first.keeps) (later-entities now after second.keeps) first.fetches second.fetches;
    parts = first.parts ++ second.parts;
    settled = settled-then es c first.pages second.pages first.parts second.parts (settled-larger es b c first.pages first.parts second.fetches.fetches.kept first.settled) second.settled;
    took = subst (λ x. Took t v x) (sym (texts-then paths more first.parts second.parts counted)) (took_then t u v (texts_of paths first.parts) (texts_of more second.parts) first.took second.took);
  }

  pub stops-then : StopsInWindow es dir more now after b c u v → StopsInWindow es dir (paths ++ more) before after a c t v
  stops-then second = record {
    front = paths ++ second.front;
    behind = second.behind;
    is = ap (λ l. paths ++ l) second.is ∙ sym (append_assoc paths second.front second.behind);
    settled_pages = first.pages ++ second.settled_pages;
    others = second.others;
    reads = subst (λ l. ReadsPages (paths ++ second.front) l before after) (sym (append_assoc first.pages second.settled_pages second.others))
        (reads-then paths second.front first.pages (second.settled_pages ++ second.others) before now after first.reads second.reads);
    begun = begun_then (before.begun Page) (now.begun Page) (after.begun Page) paths second.front first.begun second.begun;
    within = each_then PAGE_LIMIT Page before now after first.within second.within;
    keeps = entities-then before now after first.keeps second.keeps;
    unmet = second.unmet;
    fetches = more-then second.unmet dir before now after a b c (later-entities before now first.keeps) (later-entities now after second.keeps) first.fetches second.fetches;
    parts = first.parts ++ second.parts;
    settled = settled-then es c first.pages second.settled_pages first.parts second.parts (settled-larger es b c first.pages first.parts second.fetches.fetches.kept first.settled) second.settled;
    took = subst (λ x. TookFront t v x) (sym (texts-then paths second.front first.parts second.parts counted)) (front_then t u v (texts_of paths first.parts) (texts_of second.front second.parts) first.took second.took);
  }

-- ---- a world that has the table

abbrev file_of : Option (Option (List ℕ)) → Fetched
file_of None = got_script []
file_of (Some None) = missing_script
file_of (Some (Some bytes)) = got_script bytes

never-faulted : (file : Option (Option (List ℕ))) → file_of file ≡ faulted_script → ⊥
never-faulted None is = cc is
never-faulted (Some None) is = cc is
never-faulted (Some (Some bytes)) is = cc is

record Chosen (dir : List ℕ) (before after : Seen) (met : Met) (name : List ℕ) : Type 0 where
  given : Fetched
  may : MayCome (folder_with dir []) before after name given
  alike : Alike given (found_or given (found name met))
  there : given ≡ faulted_script → found name met ≡ Some faulted_script

module _ {lost : List (List ℕ)} (dir : List ℕ) (before after : Seen) (met : Met) (fetches : Fetches lost (folder_with dir []) before after [] met) where
  file-may : (name : List ℕ) → MayCome (folder_with dir []) before after name (file_of (file_at before (path_of dir name)))
  file-may name = by (file_at before (path_of dir name)) refl
    where
      by : (file : Option (Option (List ℕ))) → file_at before (path_of dir name) ≡ file → MayCome (folder_with dir []) before after name (file_of file)
      by None is = inl (subst (λ f. IfSome f (λ file. file ≡ Some [])) (sym is) tt)
      by (Some None) is = inl (subst (λ f. IsAbsent f (AbsencesRose Script before after)) (sym is) refl)
      by (Some (Some bytes)) is = inl (subst (λ f. IfSome f (λ file. file ≡ Some bytes)) (sym is) refl)

  faulted-alike : (f g : Fetched) → Alike f g → g ≡ faulted_script → f ≡ faulted_script
  faulted-alike (got_script a) g same is = absurd (subst (λ x. Alike (got_script a) x) is same)
  faulted-alike missing_script g same is = absurd (subst (λ x. Alike missing_script x) is same)
  faulted-alike faulted_script g same is = refl

  met-may : (name : List ℕ) (f : Fetched) → (found name [] ≡ Some f) ⊎ MayMeet (folder_with dir []) before after name f → MayMeet (folder_with dir []) before after name f
  met-may name f (inl was) = absurd (cc was)
  met-may name f (inr may) = may

  chosen : (name : List ℕ) → Chosen dir before after met name
  chosen name = by (found name met) refl
    where
      by : (o : Option Fetched) → found name met ≡ o → Chosen dir before after met name
      by None is =
          let f = file_of (file_at before (path_of dir name)) in
          record { given = f; may = file-may name; alike = subst (λ o. Alike f (found_or f o)) (sym is) (alike-refl f); there = λ q. absurd (never-faulted (file_at before (path_of dir name)) q) }
      by (Some f) is =
          let (g, may, alike) = met-may name f (fetches.fresh name f is) in
          record { given = g; may = may; alike = subst (λ o. Alike g (found_or g o)) (sym is) (alike-sym f g alike); there = λ q. is ∙ ap Some (faulted-alike f g alike q) }

  pub scripts_of : List ℕ → Fetched
  scripts_of name = (chosen name).given

  pub are-scripts : AreScriptsOf (folder_with dir []) before after scripts_of
  unfolding scripts_of
  are-scripts = record { each = λ name. (chosen name).may }

  pub alike-there : (name : List ℕ) → Alike (scripts_of name) (scripts_with met scripts_of name)
  unfolding scripts_of
  alike-there name = (chosen name).alike

  pub faulted-there : (name : List ℕ) → scripts_of name ≡ faulted_script → found name met ≡ Some faulted_script
  unfolding scripts_of
  faulted-there name = (chosen name).there

-- ---- what a batch gives

-- what the parse of a page comes to, of one that wasn't settled too
outcome_in : World → Given PageRead → Given Outcome
outcome_in w unmet = unmet
outcome_in w missing = missing
outcome_in w faulted = faulted
outcome_in w (got read) = got (has_outcome (page_at read) w).0

outcomes_in : World → List (Given PageRead) → List (Given Outcome)
outcomes_in w [] = []
outcomes_in w (page ∷ pages) = outcome_in w page ∷ outcomes_in w pages

outcomes-are : (w : World) (pages : List (Given PageRead)) → AreOutcomes w pages (outcomes_in w pages)
unfolding outcome_in outcomes_in
outcomes-are w [] = tt
outcomes-are w (page ∷ pages) = (one page, outcomes-are w pages)
  where
    one : (page : Given PageRead) → IsOutcome w page (outcome_in w page)
    one unmet = refl
    one missing = refl
    one faulted = refl
    one (got read) = ((has_outcome (page_at read) w).0, refl, (has_outcome (page_at read) w).1)

behind : (part : List ℕ) (paths more : List (List ℕ)) (os others : List (Given Outcome)) → (rest : List ℕ) × (batch_text (paths ++ more) (os ++ others) ≡ batch_text paths os ++ rest)
    → (rest : List ℕ) × (part ++ batch_text (paths ++ more) (os ++ others) ≡ (part ++ batch_text paths os) ++ rest)
behind part paths more os others (rest, is) = (rest, ap (λ x. part ++ x) is ∙ sym (append_assoc part (batch_text paths os) rest))

-- a front of the text of more pages
longer : (paths more : List (List ℕ)) (os others : List (Given Outcome)) → (rest : List ℕ) × (batch_text (paths ++ more) (os ++ others) ≡ batch_text paths os ++ rest)
longer [] more os others = (batch_text more (os ++ others), refl)
longer (path ∷ paths) more [] others = (batch_text ((path ∷ paths) ++ more) others, refl)
longer (path ∷ paths) more (unmet ∷ os) others = ([], refl)
longer (path ∷ paths) more (missing ∷ os) others = behind (part_of path missing) paths more os others (longer paths more os others)
longer (path ∷ paths) more (faulted ∷ os) others = behind (part_of path faulted) paths more os others (longer paths more os others)
longer (path ∷ paths) more (got o ∷ os) others = behind (part_of path (got o)) paths more os others (longer paths more os others)

module _ (es : Entities) (dir : List ℕ) (before after : Seen) (met : Met) (t t' : Option (List ℕ)) where
  batched : (paths front : List (List ℕ)) (behind : List (List ℕ)) → paths ≡ front ++ behind → (lost : List (List ℕ)) (fetches : FetchesMore lost dir before after [] met) (pages : List (Given PageRead)) → ReadsPages paths pages before after
      → (outcomes : List (Given Outcome)) → AreOutcomes (world_of es (scripts_of dir before after met fetches.fetches)) pages outcomes
      → Begun (before.begun Page) (after.begun Page) front → EachWithin PAGE_LIMIT Page before after → KeepsEntities before after
      → Batched es dir paths before after
  batched paths front behind is lost fetches pages reads outcomes parsed begun within keeps = record {
    scripts = scripts_of dir before after met fetches.fetches;
    are_scripts = are-scripts dir before after met fetches.fetches;
    pages = pages;
    read = reads;
    outcomes = outcomes;
    parsed = parsed;
    met = met;
    known = fetches.known (record { lawful = tt; once = tt });
    faulted_there = faulted-there dir before after met fetches.fetches;
    absent = absences-rose paths pages before after reads;
    failed = faults-rose paths pages before after reads;
    unfetched = rose-is fetches.more (faulted_among met) (before.faults Script) (after.faults Script) (let count = fetches.count in omega (arith, count)) fetches.rose;
    begins = record { front = front; rest = behind; is = is; begun = begun };
    names = fetches.fetches.begins.which;
    within = within;
    scripts_to = fetches.fetches.no_further;
    scripts_within = fetches.fetches.within;
    keeps = keeps;
  }

  module _ (paths : List (List ℕ)) (h : RunsWindow es dir paths before after [] met t t') where
    known-all : AreKnown met
    known-all = h.fetches.known (record { lawful = tt; once = tt })

    abbrev all-outcomes : List (Given Outcome)
    all-outcomes = outcomes_of es met (scripts_of dir before after met h.fetches.fetches) known-all (alike-there dir before after met h.fetches.fetches) h.pages h.parts h.settled

    all-batched : Batched es dir paths before after
    all-batched = batched paths paths [] (sym (append-nil paths)) [] h.fetches h.pages h.reads all-outcomes
        (are-outcomes es met (scripts_of dir before after met h.fetches.fetches) known-all (alike-there dir before after met h.fetches.fetches) h.pages h.parts h.settled) h.begun h.within h.keeps

    pub gives-all : GivesAll es dir paths before after t t'
    unfolding all-batched batched
    gives-all = (
      all-batched,
      all-met es met (scripts_of dir before after met h.fetches.fetches) known-all (alike-there dir before after met h.fetches.fetches) h.pages h.parts h.settled,
      subst (λ x. Took t t' x) (same-text es met (scripts_of dir before after met h.fetches.fetches) known-all (alike-there dir before after met h.fetches.fetches) paths h.pages h.parts h.settled) h.took,
    )

    pub gives-unfinished : GivesInPart es dir paths before after t t'
    gives-unfinished = (gives-all.0, front_of_all t t' (batch_text paths gives-all.0.outcomes) gives-all.2)

  module _ (paths : List (List ℕ)) (h : StopsInWindow es dir paths before after [] met t t') where
    abbrev scripts : List ℕ → Fetched
    scripts = scripts_of dir before after met h.fetches.fetches

    known-so-far : AreKnown met
    known-so-far = h.fetches.known (record { lawful = tt; once = tt })

    abbrev settled-outcomes : List (Given Outcome)
    settled-outcomes = outcomes_of es met scripts known-so-far (alike-there dir before after met h.fetches.fetches) h.settled_pages h.parts h.settled

    abbrev other-outcomes : List (Given Outcome)
    other-outcomes = outcomes_in (world_of es scripts) h.others ++ none_of h.behind

    in-part : ReadsPages (h.front ++ h.behind) (h.settled_pages ++ (h.others ++ all_unmet h.behind)) before after
    in-part = subst (λ l. ReadsPages (h.front ++ h.behind) l before after) (append_assoc h.settled_pages h.others (all_unmet h.behind))
        (reads-then h.front h.behind (h.settled_pages ++ h.others) (all_unmet h.behind) before after after h.reads (reads-unmet h.behind after))

    parsed-so-far : AreOutcomes (world_of es scripts) (h.settled_pages ++ (h.others ++ all_unmet h.behind)) (settled-outcomes ++ other-outcomes)
    parsed-so-far = outcomes-then (world_of es scripts) h.settled_pages (h.others ++ all_unmet h.behind) settled-outcomes other-outcomes
        (are-outcomes es met scripts known-so-far (alike-there dir before after met h.fetches.fetches) h.settled_pages h.parts h.settled)
        (outcomes-then (world_of es scripts) h.others (all_unmet h.behind) (outcomes_in (world_of es scripts) h.others) (none_of h.behind) (outcomes-are (world_of es scripts) h.others) (unmet-outcomes (world_of es scripts) h.behind))

    part-batched : Batched es dir paths before after
    part-batched = batched paths h.front h.behind h.is h.unmet h.fetches (h.settled_pages ++ (h.others ++ all_unmet h.behind)) (subst (λ l. ReadsPages l (h.settled_pages ++ (h.others ++ all_unmet h.behind)) before after) (sym h.is) in-part)
        (settled-outcomes ++ other-outcomes) parsed-so-far h.begun h.within h.keeps

    front-took : TookFront t t' (batch_text (h.front ++ h.behind) (settled-outcomes ++ other-outcomes))
    front-took =
        let (rest, is) = longer h.front h.behind settled-outcomes other-outcomes in
        subst (λ x. TookFront t t' x) (sym is) (front_longer t t' (batch_text h.front settled-outcomes) rest
        (subst (λ x. TookFront t t' x) (same-text es met scripts known-so-far (alike-there dir before after met h.fetches.fetches) h.front h.settled_pages h.parts h.settled) h.took))

    pub gives-in-part : GivesInPart es dir paths before after t t'
    unfolding part-batched batched
    gives-in-part = (part-batched, subst (λ l. TookFront t t' (batch_text l (settled-outcomes ++ other-outcomes))) (sym h.is) front-took)
