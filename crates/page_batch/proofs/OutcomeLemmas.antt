-- The parts of a batch are those of the pages' serial parses, in one world of scripts.
use Rattle.std.proofs.Common.{◌≡◌, ℕ, Bool, true, List, [], ◌∷◌, ◌++◌, length, Option, Some, None, refl, sym, ap, subst, ◌∙◌, append_assoc, append-nil}
use Rattle.std.specs.List.{AllByRecursion}
use Rattle.standard.specs.Entities.{Entities}
use Rattle.standard_laws.proofs.Total.{has_outcome}
use Rattle.serial.specs.Scripts.{Fetched, is_lawful}
use Rattle.serial.specs.Serial.{World, fetched, fetched_if, Outcome, IsSerial}
use Rattle.core_definitions.specs.Journal.{Knows}
use Rattle.core_steps.specs.Journals.{found}
use Rattle.page_turns.specs.Given.{Given, unmet, missing, faulted, got}
use Rattle.page_turns.specs.Scripts.{Met, Alike, AreKnown}
use Rattle.page_turns.specs.Pages.{PageRead, page_at, world_of}
use Rattle.page_turns.proofs.ReachLemmas.{found_or, scripts_with}
use Rattle.page_turns.proofs.SameWorlds.{serial-back}
use Rattle.page_turns.proofs.TextLemmas.{lawful-found}
use Rattle.page_batch.specs.declared.going.Part.{Part}
use Rattle.page_batch.specs.Parts.{body_of, number_of, page_line, status_line, part_of, batch_text}
use Rattle.page_batch.specs.Going.{AreOf, Settled, used_of}
use Rattle.page_batch.specs.Slots.{IsPart}
use Rattle.page_batch.specs.Windows.{texts_of, AreSettled}
use Rattle.page_batch.specs.Batches.{IsOutcome, AreOutcomes, IsMet}
use Rattle.page_batch.proofs.PagesLemmas.{all_unmet}

pub settled-then : (es : Entities) (met : Met) (pages others : List (Given PageRead)) (parts more : List Part) → AreSettled es met pages parts → AreSettled es met others more → AreSettled es met (pages ++ others) (parts ++ more)
settled-then es met [] others [] more first second = second
settled-then es met (page ∷ pages) others (part ∷ parts) more (is, of, rest) second = (is, of, settled-then es met pages others parts more rest second)
settled-then es met [] others (part ∷ parts) more first second = absurd first
settled-then es met (page ∷ pages) others [] more first second = absurd first

-- ---- in a world that has the table

knows-used : (es : Entities) (met used : Met) (scripts : List ℕ → Fetched) → AreKnown met → AreOf met used → Knows used (world_of es (scripts_with met scripts))
knows-used es met [] scripts known all = tt
knows-used es met ((name, f) ∷ used) scripts known (there, all) =
    let lawful : is_lawful name ≡ true = lawful-found name met f known.lawful there in
    (ap (λ b. fetched_if b (world_of es (scripts_with met scripts)) name) lawful ∙ ap (found_or (scripts name)) there, knows-used es met used scripts known all)

-- the text goes on behind its part
abbrev IsThere : Given Outcome → Type 0
IsThere unmet = ⊥
IsThere missing = Unit {0}
IsThere faulted = Unit {0}
IsThere (got o) = Unit {0}

text-one : (path : List ℕ) (paths : List (List ℕ)) (o : Given Outcome) (os : List (Given Outcome)) → IsThere o → batch_text (path ∷ paths) (o ∷ os) ≡ part_of path o ++ batch_text paths os
text-one path paths unmet os there = absurd there
text-one path paths missing os there = refl
text-one path paths faulted os there = refl
text-one path paths (got o) os there = refl

-- what one page comes to
record Comes (w : World) (page : Given PageRead) (part : Part) : Type 0 where
  outcome : Given Outcome
  there : IsThere outcome
  is : IsOutcome w page outcome
  text : part.text.items ≡ body_of outcome
  number : part.number ≡ number_of outcome

module _ (es : Entities) (met : Met) (scripts : List ℕ → Fetched) (known : AreKnown met) (alike : (name : List ℕ) → Alike (scripts name) (scripts_with met scripts name)) where
  abbrev w : World
  w = world_of es scripts

  comes-read : (read : PageRead) (used : Met) (part : Part) → AreOf met used → Settled es read used part.number part.text.items → Comes w (got read) part
  comes-read read used part of settled =
      let (o, comes) = has_outcome (page_at read) (world_of es (scripts_with met scripts)) in
      let is = settled.each (world_of es (scripts_with met scripts)) refl (knows-used es met used scripts known of) o comes in
      record { outcome = got o; there = tt; is = (o, refl, serial-back w (scripts_with met scripts) alike (page_at read) o comes); text = is.0; number = is.1 }

  comes-to : (page : Given PageRead) (part : Part) → IsPart es page part → AreOf met (used_of part.journal) → Comes w page part
  comes-to unmet part is of = absurd is
  comes-to missing part is of = record { outcome = missing; there = tt; is = refl; text = is.1; number = is.0 }
  comes-to faulted part is of = record { outcome = faulted; there = tt; is = refl; text = is.1; number = is.0 }
  comes-to (got read) part is of = comes-read read (used_of part.journal) part of is

  pub outcomes_of : (pages : List (Given PageRead)) (parts : List Part) → AreSettled es met pages parts → List (Given Outcome)
  outcomes_of [] [] all = []
  outcomes_of (page ∷ pages) (part ∷ parts) (is, of, rest) = (comes-to page part is of).outcome ∷ outcomes_of pages parts rest
  outcomes_of [] (part ∷ parts) all = absurd all
  outcomes_of (page ∷ pages) [] all = absurd all

  pub are-outcomes : (pages : List (Given PageRead)) (parts : List Part) (all : AreSettled es met pages parts) → AreOutcomes w pages (outcomes_of pages parts all)
  unfolding outcomes_of
  are-outcomes [] [] all = tt
  are-outcomes (page ∷ pages) (part ∷ parts) (is, of, rest) = ((comes-to page part is of).is, are-outcomes pages parts rest)
  are-outcomes [] (part ∷ parts) all = absurd all
  are-outcomes (page ∷ pages) [] all = absurd all

  pub all-met : (pages : List (Given PageRead)) (parts : List Part) (all : AreSettled es met pages parts) → AllByRecursion IsMet pages
  all-met [] [] all = tt
  all-met (page ∷ pages) (part ∷ parts) (is, of, rest) = (one page is, all-met pages parts rest)
    where
      one : (page : Given PageRead) → IsPart es page part → IsMet page
      one unmet is = is
      one missing is = tt
      one faulted is = tt
      one (got read) is = tt
  all-met [] (part ∷ parts) all = absurd all
  all-met (page ∷ pages) [] all = absurd all

  -- what was written is the text of the batch
  pub same-text : (paths : List (List ℕ)) (pages : List (Given PageRead)) (parts : List Part) (all : AreSettled es met pages parts) → texts_of paths parts ≡ batch_text paths (outcomes_of pages parts all)
  unfolding outcomes_of
  same-text [] pages parts all = refl
  same-text (path ∷ paths) [] [] all = refl
  same-text (path ∷ paths) (page ∷ pages) (part ∷ parts) (is, of, rest) = one (comes-to page part is of) (same-text paths pages parts rest)
    where
      whole : (c : Comes w page part) → texts_of paths parts ≡ batch_text paths (outcomes_of pages parts rest) → texts_of (path ∷ paths) (part ∷ parts) ≡ part_of path c.outcome ++ batch_text paths (outcomes_of pages parts rest)
      whole c behind =
          ap (λ (x : List ℕ). page_line path ++ x ++ status_line part.number ++ texts_of paths parts) c.text
          ∙ (ap (λ (n : ℕ). page_line path ++ body_of c.outcome ++ status_line n ++ texts_of paths parts) c.number ∙ ap (λ (x : List ℕ). part_of path c.outcome ++ x) behind)

      one : (c : Comes w page part) → texts_of paths parts ≡ batch_text paths (outcomes_of pages parts rest) → texts_of (path ∷ paths) (part ∷ parts) ≡ batch_text (path ∷ paths) (c.outcome ∷ outcomes_of pages parts rest)
      one c behind = whole c behind ∙ sym (text-one path paths c.outcome (outcomes_of pages parts rest) c.there)
  same-text (path ∷ paths) [] (part ∷ parts) all = absurd all
  same-text (path ∷ paths) (page ∷ pages) [] all = absurd all

-- ---- for those behind memory didn't suffice

abbrev pub none_of : List (List ℕ) → List (Given Outcome)
none_of [] = []
none_of (path ∷ paths) = unmet ∷ none_of paths

pub unmet-outcomes : (w : World) (paths : List (List ℕ)) → AreOutcomes w (all_unmet paths) (none_of paths)
unmet-outcomes w [] = tt
unmet-outcomes w (path ∷ paths) = (refl, unmet-outcomes w paths)

pub outcomes-then : (w : World) (pages others : List (Given PageRead)) (os more : List (Given Outcome)) → AreOutcomes w pages os → AreOutcomes w others more → AreOutcomes w (pages ++ others) (os ++ more)
outcomes-then w [] others [] more first second = second
outcomes-then w (page ∷ pages) others (o ∷ os) more (is, rest) second = (is, outcomes-then w pages others os more rest second)
outcomes-then w [] others (o ∷ os) more first second = absurd first
outcomes-then w (page ∷ pages) others [] more first second = absurd first
