-- The files of scripts.
use Rattle.std.specs.Prelude.{ℕ, List, [], ◌∷◌}
use Rattle.serial.specs.Scripts.{Fetched}
use Rattle.core_steps.specs.declared.fetch.FetchedFile.{FetchedFile}
use Rattle.core_steps.specs.Fetches.{fetched_of}

-- what comes of fetching each, by its name
abbrev pub files_of : List FetchedFile → List (List ℕ × Fetched)
files_of [] = []
files_of (f ∷ fs) = (f.name, fetched_of f.fetch) ∷ files_of fs
