-- What a run answers: its status and the bytes that the sink took, as a function of what it met outside.
use Rattle.std.specs.Prelude.{◌≡◌, ◌⊎◌, ℕ, zero, suc, Bool, true, false, List, [], ◌∷◌, ◌++◌, length, nat_le, if◌then◌else◌, Option, Some, None, IfSome, IsSome, IsTrue}
use Rattle.html_types.specs.declared.ending.Why.TheVariants as why
use Rattle.std.specs.List.{AllByRecursion}
use Rattle.outside.specs.Outside.{Rose, Begun, Files, Seen, KeepsOthers}
use Rattle.outside.specs.declared.traits.Port.TheVariants.{Entities, Page, Script, List as list_port}
use Rattle.standard.specs.Entities.{Entities as Table, entities_of}
use Rattle.serial.specs.Scripts.{Fetched}
use Rattle.serial.specs.Serial.{Result, finished, refused, Outcome}
use Rattle.preload.specs.Teams.{helps_first}
use Rattle.page_runner.specs.declared.command.TheConstants.{ENTITIES_LIMIT}
use Rattle.page_runner.specs.declared.command.Unread.{Unread}
use Rattle.page_runner.specs.declared.command.Unread.TheVariants as unread
use Rattle.page_turns.specs.declared.page.TheConstants.{PAGE_LIMIT}
use Rattle.page_turns.specs.declared.page.Failure.{Failure}
use Rattle.page_turns.specs.declared.page.Failure.TheVariants as failures
use Rattle.page_turns.specs.declared.scripts.TheConstants.{SCRIPT_LIMIT}
use Rattle.page_runner.specs.declared.status.Limit.TheVariants as limits
use Rattle.page_runner.specs.declared.status.Status.{Status}
use Rattle.page_runner.specs.declared.status.Status.TheVariants as status
use Rattle.command_words.specs.Words.{PageAsked, BatchAsked, Asked, for_page, for_make, for_batch}
use Rattle.page_batch.specs.declared.list.TheConstants.{LIST_LIMIT}
use Rattle.page_batch.specs.Lists.{paths_in}
use Rattle.page_batch.specs.Batches.{BeginsFront}
use Rattle.page_turns.specs.Given.{Given, unmet, missing, faulted, got, FaultsRose, NoFault, AbsencesRose, file_at, MayGive, ReadTo, BegunOnce, IsLeftAlone, KeepsEntities}
use Rattle.page_turns.specs.Calls.{ReadWithin, EachWithin}
use Rattle.page_turns.specs.Taken.{Took, TookFront}
use Rattle.page_turns.specs.Scripts.{Folder, Help, AreScriptsOf, ReadScriptsTo, NamesOnce, world_in}
use Rattle.page_runner.specs.Manner.{Manner, manner_of, output_in}
use Rattle.page_turns.specs.Pages.{PageRead, page_at, GivenFirst, MeetsFaults, BeginsAwaited, world_of, ComesTo}

-- ---- what the outside may give of the page

-- The page is the file, where no call failed, or where a read did the file without what the port has left: what was given before that read.
pub record IsPageOf (path : List ℕ) (before after : Seen) (page : PageRead) : Type 0 where
  pub whole : page.fault ≡ false → IfSome (file_at before path) (λ f. f ≡ Some page.bytes)
  pub no_fault : page.fault ≡ false → NoFault Page before after
  pub cut : page.fault ≡ true → IfSome (file_at before path) (λ f. (rest : List ℕ) × (f ≡ Some (page.bytes ++ rest)) × (after.left Page ≡ Some rest))
  pub cause : page.fault ≡ true → FaultsRose Page before after
  pub first : page.fault ≡ true → GivenFirst before after page.bytes

-- a page that was begun and read, what came of the scripts' names, and what its serial parse comes to
pub record PageMet : Type 0 where
  pub read : PageRead
  pub scripts : List ℕ → Fetched
  pub outcome : Outcome

-- the page is the file's, and the scripts are the folder's
pub record MayMeetPage (path : List ℕ) (folder : Folder) (before after : Seen) (page : PageMet) : Type 0 where
  pub read : IsPageOf path before after page.read
  pub scripts : AreScriptsOf folder before after page.scripts

-- A page that was met was begun. Where it can't be begun, no file is open at its port, which has nothing left: so a failed read of a page that
-- was begun isn't this.
abbrev pub MayGivePage : List ℕ → Folder → Seen → Seen → Given PageMet → Type 0
MayGivePage path folder before after unmet = Unit {0}
MayGivePage path folder before after missing = AbsencesRose Page before after × IfSome (file_at before path) (λ file. file ≡ None) × NoFault Page before after × (after.open_at Page ≡ false)
MayGivePage path folder before after faulted = FaultsRose Page before after × IfSome (after.left Page) (λ rest. rest ≡ []) × (after.open_at Page ≡ false)
MayGivePage path folder before after (got page) = MayMeetPage path folder before after page × (after.open_at Page ≡ true)

-- A fetch of a script failed only where the serial parse stops at it. Without a table there is no fetch.
abbrev pub FaultsOver : Option Table → PageMet → Seen → Seen → Type 0
FaultsOver None page before after = NoFault Script before after
FaultsOver (Some es) page before after = MeetsFaults (world_of es page.scripts) page.read page.outcome before after

abbrev pub FaultsMet : Option Table → Given PageMet → Seen → Seen → Type 0
FaultsMet table (got page) before after = FaultsOver table page before after
FaultsMet table other before after = NoFault Script before after

-- Each script that was begun is one that the serial parse of the page awaits. Where there is no table or no page none was begun.
abbrev pub AwaitsOver : Option Table → List ℕ → PageMet → Seen → Seen → Type 0
AwaitsOver None dir page before after = Begun (before.begun Script) (after.begun Script) []
AwaitsOver (Some es) dir page before after = BeginsAwaited (world_of es page.scripts) (page_at page.read) dir before after

abbrev pub AwaitsEach : Option Table → List ℕ → Given PageMet → Seen → Seen → Type 0
AwaitsEach table dir (got page) before after = AwaitsOver table dir page before after
AwaitsEach table dir other before after = Begun (before.begun Script) (after.begun Script) []

-- the outcome is that of the serial parse
abbrev pub IsParsed : Table → Given PageMet → Type 0
IsParsed es (got page) = ComesTo (world_of es page.scripts) page.read page.outcome
IsParsed es other = Unit {0}

-- ---- the answer: the status, and all that is written

abbrev pub Answer : Type 0
Answer = Status × List ℕ

-- the status that a result of the parse gives
abbrev pub status_with : Result → Status
status_with finished = status.Done
status_with (refused why.BadUtf8) = status.BadUtf8
status_with (refused why.Depth) = status.Limit limits.Depth
status_with (refused why.Writes) = status.Limit limits.Writes
status_with (refused why.Page) = status.Limit limits.Page
status_with (refused why.Fault) = status.ReadFault

abbrev pub answer_to_page : Manner → Given PageMet → Answer
answer_to_page how unmet = (status.NoMemory, [])
answer_to_page how missing = (status.Absent, [])
answer_to_page how faulted = (status.ReadFault, [])
answer_to_page how (got page) = (status_with page.outcome.result, output_in how page.outcome)

-- the table of the entities file; one that is too long is none
abbrev pub table_of : List ℕ → Option Table
table_of bytes = if nat_le (length bytes) ENTITIES_LIMIT then entities_of bytes else None

-- and where that file wasn't read there is none
abbrev pub table_in : Given (List ℕ) → Option Table
table_in (got bytes) = table_of bytes
table_in other = None

abbrev pub answer_over : Manner → Option Table → Given PageMet → Answer
answer_over how None page = (status.Entities, [])
answer_over how (Some es) page = answer_to_page how page

abbrev pub answer_to : Manner → Given (List ℕ) → Given PageMet → Answer
answer_to how unmet page = (status.NoMemory, [])
answer_to how missing page = (status.Absent, [])
answer_to how faulted page = (status.ReadFault, [])
answer_to how (got bytes) page = answer_over how (table_of bytes) page

abbrev pub status_for : Failure → Status
status_for failures.Memory = status.NoMemory
status_for failures.Write = status.WriteFault

-- The status is the answer's and its text was written. In its place WriteFault may come, where a call of the sink failed, and
-- NoMemory, with a front of the text.
abbrev pub Gives : Type 0 → Option (List ℕ) → Option (List ℕ) → Answer → Status → Type 0
Gives sink_failed before after answer status.WriteFault = sink_failed × TookFront before after answer.1
Gives sink_failed before after answer status.NoMemory = TookFront before after answer.1
Gives sink_failed before after answer given = (given ≡ answer.0) × Took before after answer.1

-- the statuses that don't come in the answer's place
abbrev pub is_answered : Status → Bool
is_answered status.WriteFault = false
is_answered status.NoMemory = false
is_answered _ = true

-- ---- a run

-- The page at the path was begun: its port has all of it, where the files are told.
abbrev pub IsBegun : List ℕ → Seen → Type 0
IsBegun path now = (now.open_at Page ≡ true) × IfSome now.files (λ map. IsSome (map path) × (now.left Page ≡ map path))

-- from where the page is begun
pub record PageAnswers (es : Table) (how : Manner) (path : List ℕ) (folder : Folder) (before after : Seen) (sink sink' : ℕ) (taken taken' : Option (List ℕ)) (result : Status) : Type 0 where
  pub page : Given PageMet
  pub may : MayGivePage path folder before after page
  pub faults : IsTrue (is_answered result) → FaultsMet (Some es) page before after
  pub awaited : AwaitsEach (Some es) folder.dir page before after
  pub parsed : IsParsed es page
  pub gives : Gives (Rose sink sink') taken taken' (answer_to_page how page) result

-- how far the page was read, where these were begun at its port
abbrev pub PageWithin : List (List ℕ) → Seen → Seen → Type 0
PageWithin [] before after = ReadWithin PAGE_LIMIT 0 Page before after
PageWithin (path ∷ paths) before after = EachWithin PAGE_LIMIT Page before after

-- What a call does outside that reads a page and its scripts: these were begun at the page's port.
pub record ReadsPage (path dir : List ℕ) (paths : List (List ℕ)) (before after : Seen) : Type 0 where
  pub others : KeepsEntities before after
  pub page : ReadTo PAGE_LIMIT Page path before after
  pub within : PageWithin paths before after
  pub scripts : ReadScriptsTo SCRIPT_LIMIT dir before after
  pub scripts_within : EachWithin SCRIPT_LIMIT Script before after
  pub begun : Begun (before.begun Page) (after.begun Page) paths
  pub names : NamesOnce dir (before.begun Script) (after.begun Script)

-- The same where memory may run out before the page is begun.
abbrev pub MayReadPage : List ℕ → List ℕ → Seen → Seen → Type 0
MayReadPage path dir before after = ReadsPage path dir (path ∷ []) before after ⊎ (after ≡ before)

-- The entities file was read, and lists this table.
pub record ReadsTable (path : List ℕ) (before after : Seen) (table : Table) : Type 0 where
  pub bytes : List ℕ
  pub given : MayGive ENTITIES_LIMIT Entities path before after (got bytes)
  pub lists : table_of bytes ≡ Some table

-- why there is no table
abbrev pub ReadsNone : List ℕ → Seen → Seen → Unread → Type 0
ReadsNone path before after unread.NoMemory = Unit {0}
ReadsNone path before after unread.Missing = MayGive ENTITIES_LIMIT Entities path before after missing
ReadsNone path before after unread.Faulted = MayGive ENTITIES_LIMIT Entities path before after faulted
ReadsNone path before after unread.NotTable = (bytes : List ℕ) × MayGive ENTITIES_LIMIT Entities path before after (got bytes) × (table_of bytes ≡ None)

abbrev pub answer_without : Unread → Answer
answer_without unread.NoMemory = (status.NoMemory, [])
answer_without unread.Missing = (status.Absent, [])
answer_without unread.Faulted = (status.ReadFault, [])
answer_without unread.NotTable = (status.Entities, [])

-- where the scripts of a run come from that has these helpers, of which so many may be used: as they were, and as they are now
abbrev pub folder_by : List ℕ → ℕ → List Seen → List Seen → Folder
folder_by dir preload was now = record { dir = dir; given = []; helps = helps_first preload was now }

-- Of the helpers the first so many fetched scripts, or did nothing; the others are as they were. Each is in its place.
abbrev pub HelpersBack : ℕ → List Seen → List Seen → Type 0
HelpersBack zero was now = now ≡ was
HelpersBack (suc n) [] now = now ≡ []
HelpersBack (suc n) (w ∷ was) [] = ⊥
HelpersBack (suc n) (w ∷ was) (s ∷ now) = KeepsOthers Script w s × HelpersBack n was now

-- none is used by another command
abbrev pub HelpersBackOf : Option Asked → List Seen → List Seen → Type 0
HelpersBackOf (Some (for_page asked)) was now = HelpersBack asked.preload was now
HelpersBackOf _ was now = now ≡ was

-- What was met at the ports, each with its cause, and the answer to it. The entities come first, and what stands behind
-- that one which refuses counts for nothing.
pub record Answers (asked : PageAsked) (was now : List Seen) (before after : Seen) (sink sink' : ℕ) (taken taken' : Option (List ℕ)) (result : Status) : Type 0 where
  pub entities : Given (List ℕ)
  pub page : Given PageMet
  pub may_entities : MayGive ENTITIES_LIMIT Entities asked.entities before after entities
  pub may_page : MayGivePage asked.page (folder_by asked.dir asked.preload was now) before after page
  pub faults : IsTrue (is_answered result) → FaultsMet (table_in entities) page before after
  pub awaited : AwaitsEach (table_in entities) asked.dir page before after
  pub parsed : (bytes : List ℕ) (es : Table) → entities ≡ got bytes → table_of bytes ≡ Some es → IsParsed es page
  pub gives : Gives (Rose sink sink') taken taken' (answer_to (manner_of asked) entities page) result

-- The words come before all. What comes of the commands `make` and `batch` is said by clauses of their own (`Making`, `Batches`).
abbrev pub RunsTo : Option Asked → List Seen → List Seen → Seen → Seen → ℕ → ℕ → Option (List ℕ) → Option (List ℕ) → Status → Type 0
RunsTo None was now before after sink sink' taken taken' result = Gives (Rose sink sink') taken taken' (status.Usage, []) result
RunsTo (Some (for_page asked)) was now before after sink sink' taken taken' result = Answers asked was now before after sink sink' taken taken' result
RunsTo (Some (for_make asked)) was now before after sink sink' taken taken' result = Unit {0}
RunsTo (Some (for_batch asked)) was now before after sink sink' taken taken' result = Unit {0}

-- the statuses before which the sink is finished
abbrev pub is_finished : Status → Bool
is_finished status.Done = true
is_finished status.BadUtf8 = true
is_finished (status.Limit which) = true
is_finished status.ReadFault = true
is_finished _ = false

-- What a run of a page leaves that was begun: the answer, how far it read, and a sink that is
-- finished where the parse came to an end.
pub record RunsPage (es : Table) (how : Manner) (path : List ℕ) (folder : Folder) (before after : Seen) (sink sink' : ℕ) (taken taken' : Option (List ℕ)) (finished : Bool) (result : Status) : Type 0 where
  pub answer : PageAnswers es how path folder before after sink sink' taken taken' result
  pub reads : ReadsPage path folder.dir [] before after
  pub clean : IsTrue (is_finished result) → IsTrue finished

-- The same where memory may run out before the page is begun.
pub record MayRunPage (es : Table) (how : Manner) (path : List ℕ) (folder : Folder) (before after : Seen) (sink sink' : ℕ) (taken taken' : Option (List ℕ)) (finished : Bool) (result : Status) : Type 0 where
  pub answer : PageAnswers es how path folder before after sink sink' taken taken' result
  pub reads : MayReadPage path folder.dir before after
  pub clean : IsTrue (is_finished result) → IsTrue finished

-- No file is read further than one byte past its limit: by what a port has left, of the file that was begun last; and where the calls are told,
-- each file that was begun. No list of pages is read.
pub record StopsAtEach (asked : PageAsked) (before after : Seen) : Type 0 where
  pub list : IsLeftAlone list_port before after
  pub entities : ReadTo ENTITIES_LIMIT Entities asked.entities before after
  pub page : ReadTo PAGE_LIMIT Page asked.page before after
  pub scripts : ReadScriptsTo SCRIPT_LIMIT asked.dir before after
  pub entities_within : EachWithin ENTITIES_LIMIT Entities before after
  pub page_within : EachWithin PAGE_LIMIT Page before after
  pub scripts_within : EachWithin SCRIPT_LIMIT Script before after

-- the same of a list of pages
pub record StopsInList (asked : BatchAsked) (before after : Seen) : Type 0 where
  pub entities : ReadTo ENTITIES_LIMIT Entities asked.entities before after
  pub list : ReadTo LIST_LIMIT list_port asked.list before after
  pub scripts : ReadScriptsTo SCRIPT_LIMIT asked.dir before after
  pub entities_within : EachWithin ENTITIES_LIMIT Entities before after
  pub list_within : EachWithin LIST_LIMIT list_port before after
  pub page_within : EachWithin PAGE_LIMIT Page before after
  pub scripts_within : EachWithin SCRIPT_LIMIT Script before after

-- no file is read
abbrev pub ReadsNothing : Seen → Seen → Type 0
ReadsNothing before after = (after.left ≡ before.left) × (after.calls ≡ before.calls)

abbrev pub StopsAtLimits : Option Asked → Seen → Seen → Type 0
StopsAtLimits None before after = ReadsNothing before after
StopsAtLimits (Some (for_page asked)) before after = StopsAtEach asked before after
StopsAtLimits (Some (for_make asked)) before after = ReadsNothing before after
StopsAtLimits (Some (for_batch asked)) before after = StopsInList asked before after

-- The entities and the page are begun once at most, so is each script, by a lawful name, and nothing else ever is.
pub record BeginsEach (asked : PageAsked) (before after : Seen) : Type 0 where
  pub entities : BegunOnce asked.entities (before.begun Entities) (after.begun Entities)
  pub page : BegunOnce asked.page (before.begun Page) (after.begun Page)
  pub scripts : NamesOnce asked.dir (before.begun Script) (after.begun Script)

-- None was begun, or a front of the paths of a list that its port may give, each as often as it stands there.
abbrev pub BeginsPages : List ℕ → Seen → Seen → Type 0
BeginsPages list before after = Begun (before.begun Page) (after.begun Page) []
    ⊎ ((bytes : List ℕ) × (paths : List (List ℕ)) × MayGive LIST_LIMIT list_port list before after (got bytes) × (paths_in bytes ≡ Some paths) × BeginsFront paths before after)

-- Entities and list are begun once at most, so is each script, by a lawful name, and of pages a front of the list's; and nothing else ever is.
pub record BeginsListed (asked : BatchAsked) (before after : Seen) : Type 0 where
  pub entities : BegunOnce asked.entities (before.begun Entities) (after.begun Entities)
  pub list : BegunOnce asked.list (before.begun list_port) (after.begun list_port)
  pub pages : BeginsPages asked.list before after
  pub scripts : NamesOnce asked.dir (before.begun Script) (after.begun Script)

abbrev pub BeginsOnce : Option Asked → Seen → Seen → Type 0
BeginsOnce None before after = after.begun ≡ before.begun
BeginsOnce (Some (for_page asked)) before after = BeginsEach asked before after
BeginsOnce (Some (for_make asked)) before after = after.begun ≡ before.begun
BeginsOnce (Some (for_batch asked)) before after = BeginsListed asked before after

-- ---- what follows of it

-- no fault is counted in this run
pub record NoFaultRose (before after : Seen) (sink sink' : ℕ) : Type 0 where
  pub entities : ¬ (FaultsRose Entities before after)
  pub page : ¬ (FaultsRose Page before after)
  pub script : ¬ (FaultsRose Script before after)
  pub at_sink : ¬ (Rose sink sink')

-- each of the helpers tells these files
abbrev pub TellAll : Files → List Help → Type 0
TellAll map helps = AllByRecursion (λ (h : Help). h.before.files ≡ Some map) helps

-- Where the files are there and in order, all helpers that may be used tell the same, and no call of the files failed, the status and all that
-- is written are those of the parse with the folder's scripts, in which no helper occurs, or memory ran out.
abbrev pub Completes : PageAsked → List Seen → List Seen → Seen → Seen → ℕ → ℕ → Option (List ℕ) → Option (List ℕ) → Status → Type 0
Completes asked was now before after sink sink' taken taken' result = IfSome before.files (λ map. (entities page : List ℕ) (es : Table) (o : Outcome)
    → map asked.entities ≡ Some entities → table_of entities ≡ Some es → map asked.page ≡ Some page
    → TellAll map (helps_first asked.preload was now)
    → ComesTo (world_in es map asked.dir) (record { bytes = page; fault = false }) o
    → NoFaultRose before after sink sink'
    → (result ≡ status.NoMemory) ⊎ ((result ≡ status_with o.result) × Took taken taken' (output_in (manner_of asked) o)))

-- the same of the words; a page that is made is always there and in order (`Making`)
abbrev pub CompletesRun : Option Asked → List Seen → List Seen → Seen → Seen → ℕ → ℕ → Option (List ℕ) → Option (List ℕ) → Status → Type 0
CompletesRun (Some (for_page asked)) was now before after sink sink' taken taken' result = Completes asked was now before after sink sink' taken taken' result
CompletesRun _ was now before after sink sink' taken taken' result = Unit {0}

-- It comes nowhere else, and there it comes, or WriteFault or NoMemory comes in its place.
pub record Exactly (wanted result : Status) (fact : Type 0) : Type 0 where
  pub nowhere_else : result ≡ wanted → fact
  pub there : fact → (result ≡ wanted) ⊎ (result ≡ status.WriteFault) ⊎ (result ≡ status.NoMemory)

-- An absence was counted at the port of the entities, or of the page or the list. A script that isn't there ends no run, nor does a page of a list.
abbrev pub AbsenceRose : Option Asked → Seen → Seen → Type 0
AbsenceRose (Some (for_batch asked)) before after = AbsencesRose Entities before after ⊎ AbsencesRose list_port before after
AbsenceRose _ before after = AbsencesRose Entities before after ⊎ AbsencesRose Page before after

-- a fault was counted at one of the ports; a page or a script that couldn't be read ends no run of a list
abbrev pub FaultRose : Option Asked → Seen → Seen → Type 0
FaultRose (Some (for_batch asked)) before after = FaultsRose Entities before after ⊎ FaultsRose list_port before after
FaultRose _ before after = FaultsRose Entities before after ⊎ FaultsRose Page before after ⊎ FaultsRose Script before after
