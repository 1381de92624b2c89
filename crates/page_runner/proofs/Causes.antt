-- The causes of single statuses.
use Rattle.std.proofs.Common.{◌≡◌, ℕ, Bool, List, [], ◌∷◌, Option, Some, None, refl, subst, inl, inr}
use Rattle.std.specs.Prelude.{◌⊎◌, true, false, if◌then◌else◌}
use Rattle.html_types.specs.declared.ending.Why.TheVariants as why
use Rattle.outside.specs.Outside.{Rose, Seen}
use Rattle.outside.specs.declared.traits.Port.TheVariants.{Entities}
use Rattle.standard.specs.Entities.{Entities as Table}
use Rattle.serial.specs.Scripts as fetched
use Rattle.serial.specs.Serial.{Result, finished, refused, Outcome, IsSerial}
use Rattle.page_runner.specs.declared.command.TheConstants.{ENTITIES_LIMIT}
use Rattle.page_runner.specs.declared.status.Status.{Status}
use Rattle.page_runner.specs.declared.status.Status.TheVariants as status
use Rattle.command_words.specs.Words.{PageAsked, Asked, for_page, for_make, for_batch}
use Rattle.page_runner.specs.Batches.{BatchesTo}
use Rattle.page_runner.proofs.BatchLemmas.{batch_absent, batch_fault, batch_write, batch_usage}
use Rattle.page_turns.specs.Given.{Given, unmet, missing, faulted, got, MayGive}
use Rattle.page_turns.specs.Scripts.{Folder, MayCome, MayFetch}
use Rattle.page_turns.specs.Pages.{world_of}
use Rattle.page_runner.proofs.HelpLemmas.{come_faulted}
use Rattle.page_runner.specs.Answers.{folder_by, PageMet, MayGivePage, IsParsed, status_with, answer_to_page, answer_over, answer_to, table_of, Gives, RunsTo, Exactly, AbsenceRose, FaultRose}
use Rattle.page_runner.specs.Manner.{Manner, manner_of}
use Rattle.page_runner.proofs.PageFaults.{fault_ends, fault_met}
use Rattle.command_words.specs.declared.words.MakeWords.{MakeWords}
use Rattle.page_runner.specs.Making.{page_made, file_among, made_world, MakesTo}
use Rattle.page_maker.specs.Made.{made_scripts}
use Rattle.page_maker.specs.declared.page.MadeScript.{MadeScript}
use Rattle.html_types.specs.Text.{same_text}

-- ---- which answers have the status

absent_result : (r : Result) → status.Absent ≡ status_with r → ⊥
absent_result finished e = cc
absent_result (refused why.BadUtf8) e = cc
absent_result (refused why.Depth) e = cc
absent_result (refused why.Writes) e = cc
absent_result (refused why.Page) e = cc
absent_result (refused why.Fault) e = cc

usage_result : (r : Result) → status.Usage ≡ status_with r → ⊥
usage_result finished e = cc
usage_result (refused why.BadUtf8) e = cc
usage_result (refused why.Depth) e = cc
usage_result (refused why.Writes) e = cc
usage_result (refused why.Page) e = cc
usage_result (refused why.Fault) e = cc

fault_result : (r : Result) → status.ReadFault ≡ status_with r → r ≡ refused why.Fault
fault_result finished e = absurd (cc e)
fault_result (refused why.BadUtf8) e = absurd (cc e)
fault_result (refused why.Depth) e = absurd (cc e)
fault_result (refused why.Writes) e = absurd (cc e)
fault_result (refused why.Page) e = absurd (cc e)
fault_result (refused why.Fault) e = refl

never_usage_page : (how : Manner) (page : Given PageMet) → status.Usage ≡ (answer_to_page how page).0 → ⊥
never_usage_page how unmet e = cc
never_usage_page how missing e = cc
never_usage_page how faulted e = cc
never_usage_page how (got page) e = usage_result _ e

never_usage_over : (how : Manner) (table : Option Table) (page : Given PageMet) → status.Usage ≡ (answer_over how table page).0 → ⊥
never_usage_over how None page e = cc
never_usage_over how (Some es) page e = never_usage_page how page e

never_usage : (how : Manner) (entities : Given (List ℕ)) (page : Given PageMet) → status.Usage ≡ (answer_to how entities page).0 → ⊥
never_usage how unmet page e = cc
never_usage how missing page e = cc
never_usage how faulted page e = cc
never_usage how (got bytes) page e = never_usage_over how (table_of bytes) page e

module _ (asked : PageAsked) (was now : List Seen) (before after' : Seen) where
  abbrev folder : Folder
  folder = folder_by asked.dir asked.preload was now

  absent_page : (page : Given PageMet) → MayGivePage asked.page folder before after' page → status.Absent ≡ (answer_to_page (manner_of asked) page).0 → AbsenceRose (Some (for_page asked)) before after'
  absent_page unmet may e = absurd (cc e)
  absent_page missing may e = inr may.0
  absent_page faulted may e = absurd (cc e)
  absent_page (got page) may e = absurd (absent_result _ e)

  absent_over : (table : Option Table) (page : Given PageMet) → MayGivePage asked.page folder before after' page → status.Absent ≡ (answer_over (manner_of asked) table page).0 → AbsenceRose (Some (for_page asked)) before after'
  absent_over None page may e = absurd (cc e)
  absent_over (Some es) page may e = absent_page page may e

  absent_of : (entities : Given (List ℕ)) (page : Given PageMet) → MayGive ENTITIES_LIMIT Entities asked.entities before after' entities → MayGivePage asked.page folder before after' page
      → status.Absent ≡ (answer_to (manner_of asked) entities page).0 → AbsenceRose (Some (for_page asked)) before after'
  absent_of unmet page may may' e = absurd (cc e)
  absent_of missing page may may' e = inl may.0
  absent_of faulted page may may' e = absurd (cc e)
  absent_of (got bytes) page may may' e = absent_over (table_of bytes) page may' e

  fault_page : (es : Table) (page : Given PageMet) → MayGivePage asked.page folder before after' page → IsParsed es page → status.ReadFault ≡ (answer_to_page (manner_of asked) page).0 → FaultRose (Some (for_page asked)) before after'
  fault_page es unmet may parsed e = absurd (cc e)
  fault_page es missing may parsed e = absurd (cc e)
  fault_page es faulted may parsed e = inr (inl may.0)
  fault_page es (got page) may parsed e = by_cause page may (fault_met (world_of es page.scripts) page.read page.outcome parsed (fault_result _ e))
    where
      by_cause : (page : PageMet) → MayGivePage asked.page folder before after' (got page) → (page.read.fault ≡ true) ⊎ ((name : List ℕ) × (page.scripts name ≡ fetched.faulted)) → FaultRose (Some (for_page asked)) before after'
      by_cause page may (inl fault) = inr (inl (may.0.read.cause fault))
      by_cause page may (inr met) = let failed = subst (λ f. MayCome folder before after' met.0 f) met.1 (may.0.scripts.each met.0) in inr (inr (come_faulted asked.dir folder.helps before after' met.0 failed))

  fault_over : (table : Option Table) (page : Given PageMet) → MayGivePage asked.page folder before after' page → ((es : Table) → table ≡ Some es → IsParsed es page)
      → status.ReadFault ≡ (answer_over (manner_of asked) table page).0 → FaultRose (Some (for_page asked)) before after'
  fault_over None page may parsed e = absurd (cc e)
  fault_over (Some es) page may parsed e = fault_page es page may (parsed es refl) e

  fault_of : (entities : Given (List ℕ)) (page : Given PageMet) → MayGive ENTITIES_LIMIT Entities asked.entities before after' entities → MayGivePage asked.page folder before after' page
      → ((bytes : List ℕ) (es : Table) → entities ≡ got bytes → table_of bytes ≡ Some es → IsParsed es page)
      → status.ReadFault ≡ (answer_to (manner_of asked) entities page).0 → FaultRose (Some (for_page asked)) before after'
  fault_of unmet page may may' parsed e = absurd (cc e)
  fault_of missing page may may' parsed e = absurd (cc e)
  fault_of faulted page may may' parsed e = inl may.0
  fault_of (got bytes) page may may' parsed e = fault_over (table_of bytes) page may' (λ es is. parsed bytes es refl is) e

-- ---- the made page

-- no name has a file that is faulted
file-not_faulted : (scripts : List MadeScript) (name : List ℕ) → file_among scripts name ≡ fetched.faulted → ⊥
file-not_faulted [] name e = absurd (cc e)
file-not_faulted (script ∷ scripts) name e = by (same_text script.name name) e (λ f. file-not_faulted scripts name f)
  where
    by : (b : Bool) → (if b then fetched.got script.text else file_among scripts name) ≡ fetched.faulted → (file_among scripts name ≡ fetched.faulted → ⊥) → ⊥
    by true e rest = absurd (cc e)
    by false e rest = rest e

-- neither the page nor a script is faulted
made-meets_no_fault : (asked : MakeWords) (o : Outcome) → IsSerial (page_made asked) made_world o → o.result ≡ refused why.Fault → ⊥
made-meets_no_fault asked o comes is = elim (fault_ends made_world (page_made asked) o comes is) [
  | inl ends ↦ cc ends
  | inr met ↦ file-not_faulted made_scripts met.0 met.1
]

-- ---- the clauses

pub absent : (asked : Option Asked) (was now : List Seen) (before after' : Seen) (k k' : ℕ) (t t' : Option (List ℕ)) (r : Status) → RunsTo asked was now before after' k k' t t' r → MakesTo asked before after' k k' t t' r → BatchesTo asked before after' k k' t t' r → r ≡ status.Absent → AbsenceRose asked before after'
absent None was now before after' k k' t t' r runs makes batches is = let gives = subst (Gives (Rose k k') t t' (status.Usage, [])) is runs in absurd (cc gives.0)
absent (Some (for_page asked)) was now before after' k k' t t' r runs makes batches is =
    let gives = subst (Gives (Rose k k') t t' (answer_to (manner_of asked) runs.entities runs.page)) is runs.gives in absent_of asked was now before after' runs.entities runs.page runs.may_entities runs.may_page gives.0
absent (Some (for_make asked)) was now before after' k k' t t' r runs makes batches is =
    let gives = subst (Gives (Rose k k') t t' (status_with makes.1.outcome.result, makes.1.text)) is makes.1.gives in absurd (absent_result makes.1.outcome.result gives.0)
absent (Some (for_batch asked)) was now before after' k k' t t' r runs makes batches is = batch_absent asked before after' k k' t t' r batches.0 is

pub read_fault : (asked : Option Asked) (was now : List Seen) (before after' : Seen) (k k' : ℕ) (t t' : Option (List ℕ)) (r : Status) → RunsTo asked was now before after' k k' t t' r → MakesTo asked before after' k k' t t' r → BatchesTo asked before after' k k' t t' r → r ≡ status.ReadFault → FaultRose asked before after'
read_fault None was now before after' k k' t t' r runs makes batches is = let gives = subst (Gives (Rose k k') t t' (status.Usage, [])) is runs in absurd (cc gives.0)
read_fault (Some (for_page asked)) was now before after' k k' t t' r runs makes batches is =
    let gives = subst (Gives (Rose k k') t t' (answer_to (manner_of asked) runs.entities runs.page)) is runs.gives in fault_of asked was now before after' runs.entities runs.page runs.may_entities runs.may_page runs.parsed gives.0
read_fault (Some (for_make asked)) was now before after' k k' t t' r runs makes batches is =
    let gives = subst (Gives (Rose k k') t t' (status_with makes.1.outcome.result, makes.1.text)) is makes.1.gives in absurd (made-meets_no_fault asked makes.1.outcome makes.1.comes (fault_result makes.1.outcome.result gives.0))
read_fault (Some (for_batch asked)) was now before after' k k' t t' r runs makes batches is = batch_fault asked before after' k k' t t' r batches.0 is

pub write_fault : (asked : Option Asked) (was now : List Seen) (before after' : Seen) (k k' : ℕ) (t t' : Option (List ℕ)) (r : Status) → RunsTo asked was now before after' k k' t t' r → MakesTo asked before after' k k' t t' r → BatchesTo asked before after' k k' t t' r → r ≡ status.WriteFault → Rose k k'
write_fault None was now before after' k k' t t' r runs makes batches is = let gives = subst (Gives (Rose k k') t t' (status.Usage, [])) is runs in gives.0
write_fault (Some (for_page asked)) was now before after' k k' t t' r runs makes batches is = let gives = subst (Gives (Rose k k') t t' (answer_to (manner_of asked) runs.entities runs.page)) is runs.gives in gives.0
write_fault (Some (for_make asked)) was now before after' k k' t t' r runs makes batches is =
    let gives = subst (Gives (Rose k k') t t' (status_with makes.1.outcome.result, makes.1.text)) is makes.1.gives in gives.0
write_fault (Some (for_batch asked)) was now before after' k k' t t' r runs makes batches is = batch_write asked before after' k k' t t' r batches.0 is

in_place : (rose : Type 0) (t t' : Option (List ℕ)) (r : Status) → Gives rose t t' (status.Usage, []) r → (r ≡ status.Usage) ⊎ (r ≡ status.WriteFault) ⊎ (r ≡ status.NoMemory)
in_place rose t t' status.WriteFault gives = inr (inl refl)
in_place rose t t' status.NoMemory gives = inr (inr refl)
in_place rose t t' status.Done gives = inl gives.0
in_place rose t t' status.Usage gives = inl gives.0
in_place rose t t' status.Entities gives = inl gives.0
in_place rose t t' status.BadUtf8 gives = inl gives.0
in_place rose t t' (status.Limit which) gives = inl gives.0
in_place rose t t' status.ReadFault gives = inl gives.0
in_place rose t t' status.Absent gives = inl gives.0
in_place rose t t' status.List gives = inl gives.0

pub usage : (asked : Option Asked) (was now : List Seen) (before after' : Seen) (k k' : ℕ) (t t' : Option (List ℕ)) (r : Status) → RunsTo asked was now before after' k k' t t' r → MakesTo asked before after' k k' t t' r → BatchesTo asked before after' k k' t t' r → Exactly status.Usage r (asked ≡ None)
usage None was now before after' k k' t t' r runs makes batches = record { nowhere_else = λ _. refl; there = λ _. in_place (Rose k k') t t' r runs }
usage (Some (for_page asked)) was now before after' k k' t t' r runs makes batches = record {
  nowhere_else = λ is. let gives = subst (Gives (Rose k k') t t' (answer_to (manner_of asked) runs.entities runs.page)) is runs.gives in absurd (never_usage (manner_of asked) runs.entities runs.page gives.0);
  there = λ none. absurd (cc none);
}
usage (Some (for_make asked)) was now before after' k k' t t' r runs makes batches = record {
  nowhere_else = λ is. let gives = subst (Gives (Rose k k') t t' (status_with makes.1.outcome.result, makes.1.text)) is makes.1.gives in absurd (usage_result makes.1.outcome.result gives.0);
  there = λ none. absurd (cc none);
}
usage (Some (for_batch asked)) was now before after' k k' t t' r runs makes batches = record {
  nowhere_else = λ is. absurd (batch_usage asked before after' k k' t t' r batches.0 is);
  there = λ none. absurd (cc none);
}
