-- What came of fetching scripts.
use Rattle.std.specs.Prelude.{ℕ, List, [], ◌∷◌}
use Rattle.std.specs.declared.snapshot.Snapshot.{Snapshot}
use Rattle.serial.specs.Scripts.{Fetched, got, missing, faulted}
use Rattle.core_steps.specs.declared.fetch.Fetch.{Fetch}
use Rattle.core_steps.specs.declared.fetch.Fetch.TheVariants.{Got, Missing, Faulted}
use Rattle.core_steps.specs.declared.fetch.FetchedFile.{FetchedFile}

abbrev pub fetched_of : Fetch → Fetched
fetched_of (Got bytes) = got bytes.items
fetched_of Missing = missing
fetched_of Faulted = faulted

abbrev pub fetches_of : List (Snapshot FetchedFile) → List (List ℕ × Fetched)
fetches_of [] = []
fetches_of (f ∷ fs) = (f.value.name, fetched_of f.value.fetch) ∷ fetches_of fs

-- the names that were fetched
abbrev pub names_of : List (List ℕ × Fetched) → List (List ℕ)
names_of [] = []
names_of (f ∷ fs) = f.0 ∷ names_of fs
