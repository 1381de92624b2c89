-- The files of external scripts, as a run meets them.
use Rattle.std.specs.Prelude.{◌≡◌, ◌≢◌, ◌⊎◌, ℕ, ◌+◌, true, List, [], ◌∷◌, ◌++◌, map, take, Option, Some, None, IfSome, IsSome, IsSomeAnd}
use Rattle.std.specs.List.{AllByRecursion}
use Rattle.outside.specs.Outside.{Files, Paths, Begun, Seen}
use Rattle.outside.specs.declared.traits.Port.TheVariants.{Script as script_port}
use Rattle.standard.specs.Entities.{Entities}
use Rattle.serial.specs.Scripts.{Fetched, got, missing, faulted, is_lawful, file_statements}
use Rattle.serial.specs.Serial.{World}
use Rattle.core_steps.specs.Journals.{found}
use Rattle.core_steps.specs.Fetches.{names_of}
use Rattle.page_turns.specs.declared.scripts.TheConstants.{SCRIPT_LIMIT}
use Rattle.page_turns.specs.Calls.{EachWithin, HasFailed}
use Rattle.page_turns.specs.Given.{FaultsRose, AbsencesRose, file_at, ReadTo}

-- the path of a script's file: the folder, `/`, the name
abbrev pub path_of : List ℕ → List ℕ → List ℕ
path_of dir name = dir ++ 47 ∷ name

-- ---- what may come of a script in a run

-- The file isn't there: where the files are told by them, and else only where an absence was counted.
abbrev pub IsAbsent : Option (Option (List ℕ)) → Type 0 → Type 0
IsAbsent None rose = rose
IsAbsent (Some file) rose = file ≡ None

-- of a script of the folder, by its name
abbrev pub MayFetch : List ℕ → Seen → Seen → List ℕ → Fetched → Type 0
MayFetch dir before after name (got bytes) = IfSome (file_at before (path_of dir name)) (λ file. file ≡ Some bytes)
MayFetch dir before after name missing = IsAbsent (file_at before (path_of dir name)) (AbsencesRose script_port before after)
MayFetch dir before after name faulted = FaultsRose script_port before after × HasFailed script_port (path_of dir name) before after

-- ---- scripts that were fetched before they were awaited

-- names, each with what came of it, the latest first
abbrev pub Met : Type 0
Met = List (List ℕ × Fetched)

-- one who fetches early, as it was before and as it is after
pub record Help : Type 0 where
  pub before : Seen
  pub after : Seen

-- those who fetch early: from which folder, how many of them at most, and what they all were before
pub record Crew : Type 0 where
  pub dir : List ℕ
  pub used : ℕ
  pub was : List Seen

-- where the scripts of a run come from: a folder, by the files of the run; what was given by those who fetch early, of which no more is known
-- while they are at work; and those who fetch early themselves, once they are back
pub record Folder : Type 0 where
  pub dir : List ℕ
  pub given : Met
  pub helps : List Help

abbrev pub AnyOf : {A : Type 0} → (A → Type 0) → List A → Type 0
AnyOf P [] = ⊥
AnyOf P (x ∷ xs) = P x ⊎ AnyOf P xs

abbrev pub IsGiven : List ℕ → Fetched → Met → Type 0
IsGiven name f given = AnyOf (λ (e : List ℕ × Fetched). e ≡ (name, f)) given

-- whatever it was
abbrev pub GivenEarly : List ℕ → Met → Type 0
GivenEarly name given = (f : Fetched) × IsGiven name f given

-- Of a script that one fetches early come the bytes of its file, of which one past the limit is read at most, or that there is none. That it
-- failed is nothing that comes of the script.
abbrev pub MayHelp : List ℕ → List ℕ → Fetched → Help → Type 0
MayHelp dir name (got bytes) h = IfSome (file_at h.before (path_of dir name)) (λ file. IsSomeAnd file (λ whole. bytes ≡ take (SCRIPT_LIMIT + 1) whole))
MayHelp dir name missing h = AbsencesRose script_port h.before h.after × IfSome (file_at h.before (path_of dir name)) (λ file. file ≡ None)
MayHelp dir name faulted h = ⊥

abbrev pub MayComeEarly : Folder → List ℕ → Fetched → Type 0
MayComeEarly o name f = IsGiven name f o.given ⊎ AnyOf (MayHelp o.dir name f) o.helps

-- what may come of a script, by its name
abbrev pub MayCome : Folder → Seen → Seen → List ℕ → Fetched → Type 0
MayCome o before after name f = MayFetch o.dir before after name f ⊎ MayComeEarly o name f

-- More was given.
abbrev pub GivesMore : Met → Met → Type 0
GivesMore old new = (name : List ℕ) (f : Fetched) → IsGiven name f old → IsGiven name f new

-- the folder and what was given, while those who fetch early are at work
abbrev pub folder_with : List ℕ → Met → Folder
folder_with dir given = record { dir = dir; given = given; helps = [] }

-- These are the scripts of the folder: one thing comes of each name, however often it is awaited.
pub record AreScriptsOf (o : Folder) (before after : Seen) (scripts : List ℕ → Fetched) : Type 0 where
  pub each : (name : List ℕ) → MayCome o before after name (scripts name)

-- How far the scripts' files were read: none was begun, or the last one that was begun, whose name is lawful, was read to one
-- byte past the limit at most.
pub data ReadScriptsTo (limit : ℕ) (dir : List ℕ) (before after : Seen) : Type 0 where
  none_begun : after.left script_port ≡ before.left script_port → ReadScriptsTo limit dir before after
  last : (name : List ℕ) → is_lawful name ≡ true → ReadTo limit script_port (path_of dir name) before after → ReadScriptsTo limit dir before after

-- none of the names is one of those behind it
abbrev pub AreDistinct : List (List ℕ) → Type 0
AreDistinct [] = Unit {0}
AreDistinct (name ∷ names) = AllByRecursion (λ other. other ≢ name) names × AreDistinct names

-- The scripts of these names were begun, each once and each name lawful, and nothing else was.
pub record NamesOnce (dir : List ℕ) (before after : Paths) : Type 0 where
  pub names : List (List ℕ)
  pub begun : Begun before after (map (path_of dir) names)
  pub lawful : AllByRecursion (λ name. is_lawful name ≡ true) names
  pub once : AreDistinct names

-- ---- the folder where no read fails

abbrev pub fetched_of : Option (List ℕ) → Fetched
fetched_of None = missing
fetched_of (Some bytes) = got bytes

-- the world of these entities and this folder of these files
abbrev pub world_in : Entities → Files → List ℕ → World
world_in es files dir = record { entities = es; scripts = λ name. fetched_of (files (path_of dir name)) }

-- ---- what was fetched so far

-- Two things that may come of a name are the same to the parse: of a file that is too long no more is read than shows that.
abbrev pub Alike : Fetched → Fetched → Type 0
Alike (got a) (got b) = file_statements a ≡ file_statements b
Alike missing missing = Unit {0}
Alike faulted faulted = Unit {0}
Alike _ _ = ⊥

-- what came of a name is, to the parse, something that may come of it
abbrev pub MayMeet : Folder → Seen → Seen → List ℕ → Fetched → Type 0
MayMeet o before after name f = (g : Fetched) × MayCome o before after name g × Alike f g

-- Nothing was done, or the file of that name was begun and read.
pub data BeginsFile (dir name : List ℕ) (before after : Seen) : Type 0 where
  left_alone : after ≡ before → BeginsFile dir name before after
  begun_once : Begun (before.begun script_port) (after.begun script_port) (path_of dir name ∷ []) → ReadTo SCRIPT_LIMIT script_port (path_of dir name) before after
      → EachWithin SCRIPT_LIMIT script_port before after → BeginsFile dir name before after

abbrev pub IsOneOf : List ℕ → List (List ℕ) → Type 0
IsOneOf name [] = ⊥
IsOneOf name (n ∷ names) = (n ≡ name) ⊎ IsOneOf name names

-- No script was begun whose name was fetched before, and all that were begun are among those that were, or are `unmet`. None of them was given
-- early.
pub record BeginsNew (unmet : List (List ℕ)) (dir : List ℕ) (given : Met) (before after : Paths) (old new : Met) : Type 0 where
  pub which : NamesOnce dir before after
  pub fresh : AllByRecursion (λ name. found name old ≡ None) which.names
  pub met : AllByRecursion (λ name. IsSome (found name new) ⊎ IsOneOf name unmet) which.names
  pub late : AllByRecursion (λ name. GivenEarly name given → ⊥) which.names

-- Scripts were fetched: more names are met, and what was met stays. From fetching those that are `unmet` nothing came: memory ran out.
pub record Fetches (unmet : List (List ℕ)) (o : Folder) (before after : Seen) (old new : Met) : Type 0 where
  pub kept : (name : List ℕ) (f : Fetched) → found name old ≡ Some f → found name new ≡ Some f
  pub fresh : (name : List ℕ) (f : Fetched) → found name new ≡ Some f → (found name old ≡ Some f) ⊎ MayMeet o before after name f
  pub no_further : ReadScriptsTo SCRIPT_LIMIT o.dir before after
  pub within : EachWithin SCRIPT_LIMIT script_port before after
  pub begins : BeginsNew unmet o.dir o.given (before.begun script_port) (after.begun script_port) old new

-- Each name that was fetched is lawful, and none twice.
pub record AreKnown (met : Met) : Type 0 where
  pub lawful : AllByRecursion (λ name. is_lawful name ≡ true) (names_of met)
  pub once : AreDistinct (names_of met)
