-- What comes of the command `make`: a page is made from a number and parsed, and what that comes to in numbers is written.
use Rattle.std.specs.Prelude.{◌≡◌, ◌≢◌, false, ◌⊎◌, ◌-◌, ◌^◌, ℕ, List, [], ◌∷◌, ◌++◌, min, codes, decimal, Option, Some, if◌then◌else◌}
use Rattle.html_types.specs.Text.{same_text}
use Rattle.std.specs.Str.{bytes_eq}
use Rattle.html_types.specs.declared.ending.Ending.TheVariants.{End}
use Rattle.html_types.specs.declared.ending.Why.{Why}
use Rattle.outside.specs.Outside.{Rose, Seen}
use Rattle.outside.specs.Memory.{files_of}
use Rattle.outside.specs.declared.never_fails.NeverFails.{NeverFails}
use Rattle.serial.specs.Page.{Page}
use Rattle.serial.specs.Scripts.{Fetched, got, missing}
use Rattle.serial.specs.Serial.{World, Result, finished, refused, Outcome, IsSerial}
use Rattle.core_definitions.specs.Verdict.{Watch, AreVerdicts}
use Rattle.core_steps.specs.Sides.{Shown, IsReplayed}
use Rattle.core_steps.specs.Tallies.{nodes_below, IsTallyOf}
use Rattle.core_steps.specs.declared.tally.Tally.{Tally}
use Rattle.page_maker.specs.Made.{made_page, made_scripts}
use Rattle.page_maker.specs.declared.page.MadeScript.{MadeScript}
use Rattle.page_turns.specs.Scripts.{path_of, fetched_of}
use Rattle.page_runner.specs.declared.making.MadeRun.{MadeRun}
use Rattle.page_runner.specs.declared.making.MadeRun.TheVariants as made
use Rattle.page_runner.specs.declared.status.Status.{Status}
use Rattle.page_runner.specs.declared.status.Status.TheVariants as status
use Rattle.command_words.specs.declared.words.MakeWords.{MakeWords}
use Rattle.command_words.specs.Words.{Asked, for_make}
use Rattle.page_runner.specs.Answers.{status_with, Gives}

-- ---- what is parsed

-- the page that the words ask for
abbrev pub page_made : MakeWords → Page
page_made asked = record { text = made_page asked.number asked.count; ending = End }

-- the file of the script of that name; its text is ASCII, so its characters are its bytes
abbrev pub file_among : List MadeScript → List ℕ → Fetched
file_among [] name = missing
file_among (script ∷ scripts) name = if same_text script.name name then got script.text else file_among scripts name

-- no entity is named, and the scripts are the page's own
abbrev pub made_world : World
made_world = record { entities = []; scripts = file_among made_scripts }

-- ---- what is written

-- The numbers are those of the serial parse: scripts executed, characters written, and nodes of the tree, which stop at the last value of a
-- u64; and the page's scripts that left what was parsed ahead of them standing, and those that did not.
pub record AreNumbers (asked : MakeWords) (o : Outcome) (t : Tally) : Type 0 where
  pub scripts : t.scripts ≡ o.last.side.executed
  pub nodes : t.nodes ≡ min (nodes_below o.last.side.doc.tree) (2 ^ 64 - 1)
  pub written : t.written ≡ o.last.side.written
  pub watch : Watch
  pub verdicts : AreVerdicts (page_made asked) made_world watch
  pub kept : t.kept ≡ watch.kept
  pub failed : t.failed ≡ watch.failed

-- the line of the numbers
abbrev pub tally_text : Tally → List ℕ
tally_text t = codes "scripts " ++ decimal t.scripts ++ codes " kept " ++ decimal t.kept ++ codes " failed " ++ decimal t.failed
    ++ codes " nodes " ++ decimal t.nodes ++ codes " written " ++ decimal t.written ++ codes "\n"

-- where the parse finished the text is that line, and else empty
abbrev pub IsLineOf : MakeWords → Outcome → Result → List ℕ → Type 0
IsLineOf asked o finished text = (t : Tally) × AreNumbers asked o t × (text ≡ tally_text t)
IsLineOf asked o (refused why) text = text ≡ []

-- The status is that of the serial parse of the page, and the line is written; or WriteFault, where a call of the sink failed, or NoMemory
-- comes in its place, with a front of the line. Where memory runs out before the parse is over nothing is written.
pub record Makes (asked : MakeWords) (sink_failed : Type 0) (taken taken' : Option (List ℕ)) (result : Status) : Type 0 where
  pub outcome : Outcome
  pub comes : IsSerial (page_made asked) made_world outcome
  pub text : List ℕ
  pub line : IsLineOf asked outcome outcome.result text ⊎ ((result ≡ status.NoMemory) × (text ≡ []))
  pub gives : Gives sink_failed taken taken' (status_with outcome.result, text) result

-- The files outside are left as they were.
abbrev pub MakesTo : Option Asked → Seen → Seen → ℕ → ℕ → Option (List ℕ) → Option (List ℕ) → Status → Type 0
MakesTo (Some (for_make asked)) before after sink sink' taken taken' result = (after ≡ before) × Makes asked (Rose sink sink') taken taken' result
MakesTo _ before after sink sink' taken taken' result = Unit {0}

-- ---- on the way

-- a file was added
abbrev pub Adds : List ℕ → List ℕ → NeverFails → NeverFails → Type 0
Adds path bytes old new = (other : List ℕ) → files_of new other ≡ (if bytes_eq path other then Some bytes else files_of old other)

-- the page, and the files of its scripts
pub record AreFilesOf (page : List ℕ) (files : NeverFails) : Type 0 where
  pub page_is : files_of files (codes "page") ≡ Some page
  pub scripts : (name : List ℕ) → fetched_of (files_of files (path_of (codes "scripts") name)) ≡ file_among made_scripts name

-- a status with which a refused parse ends
abbrev pub IsRefusal : Status → Type 0
IsRefusal outcome = (why : Why) × (outcome ≡ status_with (refused why))

-- the numbers of a parse that finished, or the status of one that was refused
abbrev pub IsEndOf : MakeWords → Outcome → MadeRun → Type 0
IsEndOf asked o (made.Finished t) = (o.result ≡ finished) × AreNumbers asked o t
IsEndOf asked o (made.Refused outcome) = (why : Why) × (o.result ≡ refused why) × (outcome ≡ status_with (refused why))

abbrev pub IsRunOf : MakeWords → MadeRun → Type 0
IsRunOf asked run = (o : Outcome) × IsSerial (page_made asked) made_world o × IsEndOf asked o run

-- what a report's status and document's side tell: of a parse that finished the numbers, and of another the status, where memory didn't run out
abbrev pub Tells : Status → Option Shown → MadeRun → Type 0
Tells outcome side (made.Finished t) = (outcome ≡ status.Done) × (s : Shown) × (side ≡ Some s) × IsReplayed s × (s.spent ≡ false → IsTallyOf s.desk t)
Tells outcome side (made.Refused told) = (told ≡ outcome) × (outcome ≢ status.Done) × (outcome ≢ status.NoMemory)
