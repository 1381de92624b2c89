-- What is printed of a page that is run with scripts in memory.
use Rattle.std.proofs.Common.{◌≡◌, ◌++◌, ℕ, List, [], Bool, true, false, Option, Some, None, refl, sym, ap, subst, ◌∙◌}
use Rattle.std.specs.Prelude.{if◌then◌else◌}
use Rattle.std.specs.Option.{option_map}
use Rattle.std.specs.Str.{bytes_eq}
use Rattle.html_types.specs.declared.ending.Why.TheVariants as why
use Rattle.standard.specs.Entities.{Entities}
use Rattle.serial.specs.Scripts.{Fetched, got}
use Rattle.serial.specs.Serial.{Result, Outcome, finished, refused}
use Rattle.serial.specs.Output.{output_with}
use Rattle.outside.specs.Outside.{Files, Seen}
use Rattle.outside.specs.declared.traits.Port.TheVariants.{Page, Script}
use Rattle.parse_machine.specs.declared.end.End.{End}
use Rattle.parse_machine.specs.declared.end.End.TheVariants.{Finished, Refused}
use Rattle.page_turns.specs.Given.{Given, unmet, missing, faulted, got as met, FaultsRose, file_at}
use Rattle.page_turns.specs.Taken.{Took}
use Rattle.page_turns.specs.Scripts.{AreScriptsOf, folder_with, path_of, fetched_of}
use Rattle.page_turns.specs.Pages.{world_of, ComesTo}
use Rattle.parse_machine.specs.Ends.{result_of}
use Rattle.page_runner.specs.Answers.{IsPageOf, PageMet, MayGivePage, IsParsed, Answer, status_with, answer_to_page, Gives}
use Rattle.page_runner.specs.declared.status.Status.{Status}
use Rattle.page_runner.specs.declared.status.Status.TheVariants as status
use Rattle.page_runner.specs.Manner.{manner}
use Rattle.page_runner.proofs.HelpLemmas.{come_none}
use Rattle.page_runner.proofs.MannerLemmas.{plain-output}
use Rattle.page_runner.proofs.Complete.{some_at, scripts_told}
use Rattle.memory_runner.specs.Runs.{path_in, outcome_of}

-- ---- a script that is added

fetched_if : (b : Bool) (bytes : List ℕ) (old : Option (List ℕ)) → fetched_of (if b then Some bytes else old) ≡ (if b then got bytes else fetched_of old)
fetched_if true bytes old = refl
fetched_if false bytes old = refl

pub added : (path name bytes : List ℕ) (old new : Files) → path ≡ path_in name → ((other : List ℕ) → new other ≡ (if bytes_eq path other then Some bytes else old other)) → (other : List ℕ)
    → fetched_of (new (path_in other)) ≡ (if bytes_eq name other then got bytes else fetched_of (old (path_in other)))
added path name bytes old new is at other =
    ap fetched_of (at (path_in other) ∙ ap (λ p. if bytes_eq p (path_in other) then Some bytes else old (path_in other)) is) ∙ fetched_if (bytes_eq name other) bytes (old (path_in other))

-- ---- an answer that tells an outcome

told : (rose : Type 0) (t t' : Option (List ℕ)) (answer : Answer) (r : Status) (k : End) → outcome_of r ≡ Some k → Gives rose t t' answer r → (r ≡ answer.0) × Took t t' answer.1
told rose t t' answer status.Done k is gives = gives
told rose t t' answer status.BadUtf8 k is gives = gives
told rose t t' answer (status.Limit which) k is gives = gives
told rose t t' answer status.Usage k is gives = absurd (cc is)
told rose t t' answer status.Entities k is gives = absurd (cc is)
told rose t t' answer status.ReadFault k is gives = absurd (cc is)
told rose t t' answer status.WriteFault k is gives = absurd (cc is)
told rose t t' answer status.Absent k is gives = absurd (cc is)
told rose t t' answer status.List k is gives = absurd (cc is)
told rose t t' answer status.NoMemory k is gives = absurd (cc is)

untold : {P : Type 0} (r s : Status) (k : End) → outcome_of r ≡ Some k → r ≡ s → outcome_of s ≡ None → P
untold r s k is same none = let e : None ≡ Some k = sym none ∙ (ap outcome_of (sym same) ∙ is) in absurd (cc e)

result_told : (r : Status) (k : End) (o : Result) → outcome_of r ≡ Some k → r ≡ status_with o → o ≡ result_of k
result_told r k finished is same = let e : Some Finished ≡ Some k = ap outcome_of (sym same) ∙ is in let here : Finished ≡ k = cc e in ap result_of here
result_told r k (refused why.BadUtf8) is same = let e : Some (Refused why.BadUtf8) ≡ Some k = ap outcome_of (sym same) ∙ is in let here : Refused why.BadUtf8 ≡ k = cc e in ap result_of here
result_told r k (refused why.Depth) is same = let e : Some (Refused why.Depth) ≡ Some k = ap outcome_of (sym same) ∙ is in let here : Refused why.Depth ≡ k = cc e in ap result_of here
result_told r k (refused why.Writes) is same = let e : Some (Refused why.Writes) ≡ Some k = ap outcome_of (sym same) ∙ is in let here : Refused why.Writes ≡ k = cc e in ap result_of here
result_told r k (refused why.Page) is same = let e : Some (Refused why.Page) ≡ Some k = ap outcome_of (sym same) ∙ is in let here : Refused why.Page ≡ k = cc e in ap result_of here
result_told r k (refused why.Fault) is same = untold r status.ReadFault k is same refl

all_taken : (before text bytes : List ℕ) → before ≡ [] → Took (Some before) (Some text) bytes → text ≡ bytes
all_taken before text bytes none took = let e : text ≡ before ++ bytes = cc took in e ∙ ap (λ x. x ++ bytes) none

-- ---- a run

abbrev pub Printed : Entities → (List ℕ → Fetched) → List ℕ → Bool → End → List ℕ → Type 0
Printed es scripts page dump k text = (o : Outcome) × ComesTo (world_of es scripts) (record { bytes = page; fault = false }) o × (o.result ≡ result_of k) × (text ≡ output_with dump o)

module _ (es : Entities) (dump : Bool) (path dir : List ℕ) (before after : Seen) (map : Files) (files : before.files ≡ Some map) (page : List ℕ) (there : map path ≡ Some page) (scripts : List ℕ → Fetched)
    (are : (λ name. fetched_of (map (path_of dir name))) ≡ scripts) (no_page_fault : FaultsRose Page before after → ⊥) (no_script_fault : FaultsRose Script before after → ⊥) (rose : Type 0) (taken text : List ℕ)
    (none : taken ≡ []) (r : Status) (k : End) (is : outcome_of r ≡ Some k) where
  of_page : (bytes : List ℕ) (fault : Bool) (given : List ℕ → Fetched) (end : Outcome) → IsPageOf path before after (record { bytes = bytes; fault = fault }) → AreScriptsOf (folder_with dir []) before after given →
      ComesTo (world_of es given) (record { bytes = bytes; fault = fault }) end → Gives rose (Some taken) (Some text) (status_with end.result, output_with dump end) r → Printed es scripts page dump k text
  of_page bytes true given end may ones parsed gives = absurd (no_page_fault (may.cause refl))
  of_page bytes false given end may ones parsed gives =
      let at : file_at before path ≡ Some (Some page) = ap (option_map (λ m. m path)) files ∙ ap Some there in
      let same : Some page ≡ Some bytes = some_at (file_at before path) (λ f. f ≡ Some bytes) (Some page) at (may.whole refl) in
      let whole : bytes ≡ page = cc same in
      let here : ComesTo (world_of es given) (record { bytes = page; fault = false }) end = subst (λ b. ComesTo (world_of es given) (record { bytes = b; fault = false }) end) whole parsed in
      let with : given ≡ scripts = scripts_told dir before after map given files no_script_fault (λ name. come_none dir before after name (given name) (ones.each name)) ∙ are in
      let both = told rose (Some taken) (Some text) (status_with end.result, output_with dump end) r k is gives in
      (end, subst (λ s. ComesTo (world_of es s) (record { bytes = page; fault = false }) end) with here, result_told r k end.result is both.0, all_taken taken text (output_with dump end) none both.1)

  -- what was printed, where the run told what the parse came to
  pub printed : (given : Given PageMet) → MayGivePage path (folder_with dir []) before after given → IsParsed es given → Gives rose (Some taken) (Some text) (answer_to_page (manner dump 0) given) r → Printed es scripts page dump k text
  printed unmet may parsed gives = untold r status.NoMemory k is (told rose (Some taken) (Some text) (status.NoMemory, []) r k is gives).0 refl
  printed missing may parsed gives = untold r status.Absent k is (told rose (Some taken) (Some text) (status.Absent, []) r k is gives).0 refl
  printed faulted may parsed gives = untold r status.ReadFault k is (told rose (Some taken) (Some text) (status.ReadFault, []) r k is gives).0 refl
  printed (met p) may parsed gives =
      of_page p.read.bytes p.read.fault p.scripts p.outcome may.0.read may.0.scripts parsed
      (subst (λ l. Gives rose (Some taken) (Some text) (status_with p.outcome.result, l) r) (plain-output dump p.outcome) gives)
