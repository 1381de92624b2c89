-- What a page comes to that is run with scripts in memory.
use Rattle.std.specs.Prelude.{◌≡◌, ℕ, Bool, false, List, codes, Option, Some, None}
use Rattle.html_types.specs.declared.ending.Why.TheVariants as why
use Rattle.standard.specs.Entities.{Entities}
use Rattle.serial.specs.Scripts.{Fetched}
use Rattle.serial.specs.Serial.{Outcome}
use Rattle.serial.specs.Output.{output_with}
use Rattle.outside.specs.Memory.{files_of}
use Rattle.parse_machine.specs.declared.end.End.{End}
use Rattle.parse_machine.specs.declared.end.End.TheVariants.{Finished, Refused}
use Rattle.page_turns.specs.Scripts.{path_of, fetched_of}
use Rattle.page_turns.specs.Pages.{world_of, ComesTo}
use Rattle.parse_machine.specs.Ends.{result_of}
use Rattle.page_runner.specs.declared.status.Limit.TheVariants as limits
use Rattle.page_runner.specs.declared.status.Status.{Status}
use Rattle.page_runner.specs.declared.status.Status.TheVariants as status
use Rattle.memory_runner.specs.declared.scripts.Scripts.{Scripts}
use Rattle.memory_runner.specs.declared.running.Ran.{Ran}

-- where a script of that name stands
abbrev pub path_in : List ℕ → List ℕ
path_in name = path_of (codes "s") name

-- what there is under each name
abbrev pub scripts_in : Scripts → List ℕ → Fetched
scripts_in all name = fetched_of (files_of all.files (path_in name))

-- what the parse came to, where the run told it
abbrev pub outcome_of : Status → Option End
outcome_of status.Done = Some Finished
outcome_of status.BadUtf8 = Some (Refused why.BadUtf8)
outcome_of (status.Limit limits.Depth) = Some (Refused why.Depth)
outcome_of (status.Limit limits.Writes) = Some (Refused why.Writes)
outcome_of (status.Limit limits.Page) = Some (Refused why.Page)
outcome_of _ = None

-- With these entities and these scripts the serial parse of the page comes to this, and this is printed of it.
pub record Runs (es : Entities) (scripts : List ℕ → Fetched) (page : List ℕ) (dump : Bool) (ran : Ran) : Type 0 where
  pub outcome : Outcome
  pub comes : ComesTo (world_of es scripts) (record { bytes = page; fault = false }) outcome
  pub result : outcome.result ≡ result_of ran.outcome
  pub text : ran.text.items ≡ output_with dump outcome
