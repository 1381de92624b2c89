-- What a fetcher answers to the names that it is asked for.
use Rattle.std.specs.Prelude.{◌≡◌, ℕ, Bool, if◌then◌else◌, List, [], ◌∷◌, ◌++◌, map}
use Rattle.outside.specs.Outside.{Begun, Seen, KeepsOthers}
use Rattle.outside.specs.declared.traits.Port.TheVariants.{Script}
use Rattle.serial.specs.Scripts.{got, missing}
use Rattle.page_turns.specs.declared.scripts.TheConstants.{SCRIPT_LIMIT}
use Rattle.page_turns.specs.Given as given
use Rattle.page_turns.specs.Given.{Given, MayGive}
use Rattle.page_turns.specs.Scripts.{Met, path_of, BeginsFile}
use Rattle.preload.specs.declared.messages.Wanted.{Wanted}
use Rattle.preload.specs.declared.messages.Wanted.TheVariants.{Ask, Stop}
use Rattle.preload.specs.declared.messages.Fetched.{Fetched}
use Rattle.preload.specs.declared.messages.Fetched.TheVariants.{Got, Missing, Tried, NoMemory}

-- what an answer says of a file
abbrev pub told_by : Fetched → Given (List ℕ)
told_by (Got bytes) = given.got bytes.items
told_by Missing = given.missing
told_by Tried = given.faulted
told_by NoMemory = given.unmet

-- One answer, to the name that was asked for. The bytes are those of the file, where that is told, and one past the limit at most; that there is
-- none is said where an absence was counted and the files, where they are told, lack it; and that it was tried where a call for it failed.
abbrev pub GivesOne : List ℕ → Seen → Seen → List ℕ → Fetched → Type 0
GivesOne dir before after name answer = MayGive SCRIPT_LIMIT Script (path_of dir name) before after (told_by answer)

-- The file of that name was begun, once, and read to one past the limit at most; where memory ran out perhaps nothing was done.
abbrev pub BeginsOne : List ℕ → List ℕ → Seen → Seen → Fetched → Type 0
BeginsOne dir name before after NoMemory = BeginsFile dir name before after
BeginsOne dir name before after _ = BeginsFile dir name before after × Begun (before.begun Script) (after.begun Script) (path_of dir name ∷ [])

-- One answer to each name, in order, for which its file was begun.
abbrev pub GivesAll : List ℕ → List (List ℕ) → List Fetched → Seen → Seen → Type 0
GivesAll dir [] [] before after = after ≡ before
GivesAll dir (name ∷ names) (answer ∷ answers) before after =
    (now : Seen) × GivesOne dir before now name answer × BeginsOne dir name before now answer × KeepsOthers Script before now × GivesAll dir names answers now after
GivesAll dir names answers before after = ⊥

-- so far the names that were taken were answered
abbrev pub Serving : List ℕ → Seen → Seen → List Wanted → List Fetched → Type 0
Serving dir before now taken given = (names : List (List ℕ)) × (taken ≡ map Ask names) × GivesAll dir names given before now

-- and the last that was taken was the word to stop
abbrev pub FetchedAll : List ℕ → Seen → Seen → List Wanted → List Fetched → Type 0
FetchedAll dir before after taken given = (names : List (List ℕ)) × (taken ≡ map Ask names ++ Stop ∷ []) × GivesAll dir names given before after

-- ---- what the answers say of the scripts

-- the bytes, or that there is no file; the others say nothing of the script
abbrev pub came_of : List ℕ → Fetched → Met
came_of name (Got bytes) = (name, got bytes.items) ∷ []
came_of name Missing = (name, missing) ∷ []
came_of name _ = []

-- of the names, by the first answers to them
abbrev pub came_by : List (List ℕ) → List Fetched → Met
came_by (name ∷ names) (answer ∷ answers) = came_of name answer ++ came_by names answers
came_by names answers = []

-- and of those alone that are told
abbrev pub given_by : List (List ℕ) → List Bool → List Fetched → Met
given_by (name ∷ names) (told ∷ rest) (answer ∷ answers) = (if told then came_of name answer else []) ++ given_by names rest answers
given_by names told answers = []
