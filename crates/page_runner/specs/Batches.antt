-- What comes of the command `batch`: the pages of a list are parsed, and each one's path, output and status are written in the list's order.
use Rattle.std.specs.Prelude.{◌≡◌, ◌≤◌, ◌⊎◌, ℕ, Bool, List, [], ◌∷◌, Option, Some, None, IfSome, IsTrue}
use Rattle.std.specs.List.{AllByRecursion}
use Rattle.outside.specs.Outside.{Rose, Begun, Seen}
use Rattle.outside.specs.declared.traits.Port.TheVariants.{Entities, Page, Script, List as list_port}
use Rattle.standard.specs.Entities.{Entities as Table}
use Rattle.serial.specs.Serial.{Result}
use Rattle.command_words.specs.Words.{BatchAsked, Asked, for_batch}
use Rattle.page_batch.specs.declared.list.TheConstants.{LIST_LIMIT}
use Rattle.page_batch.specs.Lists.{paths_in}
use Rattle.page_batch.specs.Parts.{end_number, batch_text}
use Rattle.page_batch.specs.Batches.{Batched, BeginsFront, IsMet}
use Rattle.page_turns.specs.Calls.{EachWithin}
use Rattle.page_turns.specs.Given.{Given, unmet, missing, faulted, got, FaultsRose, MayGive, ReadTo, IsLeftAlone, KeepsEntities}
use Rattle.page_runner.specs.declared.batch.Unlisted.{Unlisted}
use Rattle.page_runner.specs.declared.batch.Unlisted.TheVariants as unlisted
use Rattle.page_runner.specs.declared.command.TheConstants.{ENTITIES_LIMIT}
use Rattle.page_runner.specs.declared.status.Status.{Status}
use Rattle.page_runner.specs.declared.status.Status.TheVariants as status
use Rattle.page_runner.specs.Status.{exit_of}
use Rattle.page_turns.specs.declared.page.TheConstants.{PAGE_LIMIT}
use Rattle.page_turns.specs.declared.scripts.TheConstants.{SCRIPT_LIMIT}
use Rattle.page_turns.specs.Scripts.{ReadScriptsTo, NamesOnce}
use Rattle.page_runner.specs.Answers.{Answer, Gives, status_with, table_of, is_finished, BeginsPages}

-- ---- the list

-- the list was read, and has these paths
pub record ReadsList (path : List ℕ) (before after : Seen) (paths : List (List ℕ)) : Type 0 where
  pub bytes : List ℕ
  pub given : MayGive LIST_LIMIT list_port path before after (got bytes)
  pub lists : paths_in bytes ≡ Some paths

-- why there are no paths
abbrev pub ReadsNoList : List ℕ → Seen → Seen → Unlisted → Type 0
ReadsNoList path before after unlisted.NoMemory = Unit {0}
ReadsNoList path before after unlisted.Missing = MayGive LIST_LIMIT list_port path before after missing
ReadsNoList path before after unlisted.Faulted = MayGive LIST_LIMIT list_port path before after faulted
ReadsNoList path before after unlisted.NotList = (bytes : List ℕ) × MayGive LIST_LIMIT list_port path before after (got bytes) × (paths_in bytes ≡ None)

abbrev pub answer_unlisted : Unlisted → Answer
answer_unlisted unlisted.NoMemory = (status.NoMemory, [])
answer_unlisted unlisted.Missing = (status.Absent, [])
answer_unlisted unlisted.Faulted = (status.ReadFault, [])
answer_unlisted unlisted.NotList = (status.List, [])

-- ---- its pages

-- The pages were met, and the text of the batch is written; at Done memory sufficed for each. The numbers in it are the exit statuses of a run of
-- each page alone.
pub record ListAnswers (es : Table) (dir : List ℕ) (paths : List (List ℕ)) (before after : Seen) (sink sink' : ℕ) (taken taken' : Option (List ℕ)) (result : Status) : Type 0 where
  pub batch : Batched es dir paths before after
  pub all : result ≡ status.Done → AllByRecursion IsMet batch.pages
  pub gives : Gives (Rose sink sink') taken taken' (status.Done, batch_text paths batch.outcomes) result
  pub numbers : (r : Result) → end_number r ≡ exit_of (status_with r)

-- While entities and list were read nothing was done at the ports of pages and scripts.
pub record ReadsFirst (before now : Seen) : Type 0 where
  pub files : now.files ≡ before.files
  pub page : IsLeftAlone Page before now
  pub script : IsLeftAlone Script before now

-- the pages are begun from some moment on
abbrev pub PathsAnswer : Table → List ℕ → Option (List (List ℕ)) → Seen → Seen → ℕ → ℕ → Option (List ℕ) → Option (List ℕ) → Status → Type 0
PathsAnswer es dir None before after sink sink' taken taken' result = Gives (Rose sink sink') taken taken' (status.List, []) result
PathsAnswer es dir (Some paths) before after sink sink' taken taken' result = (now : Seen) × ReadsFirst before now × ListAnswers es dir paths now after sink sink' taken taken' result

-- with the table, by the list
abbrev pub AnswerWith : Table → List ℕ → Given (List ℕ) → Seen → Seen → ℕ → ℕ → Option (List ℕ) → Option (List ℕ) → Status → Type 0
AnswerWith es dir unmet before after sink sink' taken taken' result = Gives (Rose sink sink') taken taken' (status.NoMemory, []) result
AnswerWith es dir missing before after sink sink' taken taken' result = Gives (Rose sink sink') taken taken' (status.Absent, []) result
AnswerWith es dir faulted before after sink sink' taken taken' result = Gives (Rose sink sink') taken taken' (status.ReadFault, []) result
AnswerWith es dir (got bytes) before after sink sink' taken taken' result = PathsAnswer es dir (paths_in bytes) before after sink sink' taken taken' result

abbrev pub AnswerOver : Option Table → List ℕ → Given (List ℕ) → Seen → Seen → ℕ → ℕ → Option (List ℕ) → Option (List ℕ) → Status → Type 0
AnswerOver None dir list before after sink sink' taken taken' result = Gives (Rose sink sink') taken taken' (status.Entities, []) result
AnswerOver (Some es) dir list before after sink sink' taken taken' result = AnswerWith es dir list before after sink sink' taken taken' result

-- by the entities and the list, of which the entities come first
abbrev pub AnswerTo : Given (List ℕ) → List ℕ → Given (List ℕ) → Seen → Seen → ℕ → ℕ → Option (List ℕ) → Option (List ℕ) → Status → Type 0
AnswerTo unmet dir list before after sink sink' taken taken' result = Gives (Rose sink sink') taken taken' (status.NoMemory, []) result
AnswerTo missing dir list before after sink sink' taken taken' result = Gives (Rose sink sink') taken taken' (status.Absent, []) result
AnswerTo faulted dir list before after sink sink' taken taken' result = Gives (Rose sink sink') taken taken' (status.ReadFault, []) result
AnswerTo (got bytes) dir list before after sink sink' taken taken' result = AnswerOver (table_of bytes) dir list before after sink sink' taken taken' result

-- What a call does outside that runs the pages at these paths.
pub record ReadsPaths (dir : List ℕ) (paths : List (List ℕ)) (before after : Seen) : Type 0 where
  pub keeps : KeepsEntities before after
  pub begins : BeginsFront paths before after
  pub page_within : EachWithin PAGE_LIMIT Page before after
  pub scripts : ReadScriptsTo SCRIPT_LIMIT dir before after
  pub scripts_within : EachWithin SCRIPT_LIMIT Script before after
  pub names : NamesOnce dir (before.begun Script) (after.begun Script)

-- What a run of the pages leaves: the answer, how far it read, and a sink that is finished where
-- all were run.
pub record RunsPaths (es : Table) (dir : List ℕ) (paths : List (List ℕ)) (before after : Seen) (sink sink' : ℕ) (taken taken' : Option (List ℕ)) (finished : Bool) (result : Status) : Type 0 where
  pub answer : ListAnswers es dir paths before after sink sink' taken taken' result
  pub reads : ReadsPaths dir paths before after
  pub clean : IsTrue (is_finished result) → IsTrue finished

-- with the table: the list, and the answer to it
pub record ListedAnswers (es : Table) (path dir : List ℕ) (before after : Seen) (sink sink' : ℕ) (taken taken' : Option (List ℕ)) (result : Status) : Type 0 where
  pub list : Given (List ℕ)
  pub may_list : MayGive LIST_LIMIT list_port path before after list
  pub answer : AnswerWith es dir list before after sink sink' taken taken' result

-- What a call does outside that reads a list and its pages.
pub record ReadsListed (path dir : List ℕ) (before after : Seen) : Type 0 where
  pub files : after.files ≡ before.files
  pub entities : IsLeftAlone Entities before after
  pub absences : before.absences Entities ≤ after.absences Entities
  pub list : ReadTo LIST_LIMIT list_port path before after
  pub list_within : EachWithin LIST_LIMIT list_port before after
  pub list_begun : Begun (before.begun list_port) (after.begun list_port) (path ∷ [])
  pub pages : BeginsPages path before after
  pub page_within : EachWithin PAGE_LIMIT Page before after
  pub scripts : ReadScriptsTo SCRIPT_LIMIT dir before after
  pub scripts_within : EachWithin SCRIPT_LIMIT Script before after
  pub names : NamesOnce dir (before.begun Script) (after.begun Script)

-- What was met at the ports, each with its cause, and the answer to it.
pub record BatchAnswers (asked : BatchAsked) (before after : Seen) (sink sink' : ℕ) (taken taken' : Option (List ℕ)) (result : Status) : Type 0 where
  pub entities : Given (List ℕ)
  pub list : Given (List ℕ)
  pub may_entities : MayGive ENTITIES_LIMIT Entities asked.entities before after entities
  pub may_list : MayGive LIST_LIMIT list_port asked.list before after list
  pub answer : AnswerTo entities asked.dir list before after sink sink' taken taken' result

-- Where entities and list are there and in order, no read of them failed and the sink didn't, all pages are written, or memory ran out: whatever
-- the pages hold.
abbrev pub CompletesBatch : BatchAsked → Seen → Seen → ℕ → ℕ → Status → Type 0
CompletesBatch asked before after sink sink' result = IfSome before.files (λ map. (entities list : List ℕ) (es : Table) (paths : List (List ℕ))
    → map asked.entities ≡ Some entities → table_of entities ≡ Some es → map asked.list ≡ Some list → paths_in list ≡ Some paths
    → ¬ (FaultsRose Entities before after) → ¬ (FaultsRose list_port before after) → ¬ (Rose sink sink')
    → (result ≡ status.Done) ⊎ (result ≡ status.NoMemory))

abbrev pub BatchesTo : Option Asked → Seen → Seen → ℕ → ℕ → Option (List ℕ) → Option (List ℕ) → Status → Type 0
BatchesTo (Some (for_batch asked)) before after sink sink' taken taken' result =
    BatchAnswers asked before after sink sink' taken taken' result × CompletesBatch asked before after sink sink' result
BatchesTo _ before after sink sink' taken taken' result = Unit {0}
