-- The journal, and what is found in it.
use Rattle.std.specs.Prelude.{◌≡◌, ℕ, Bool, true, false, List, [], ◌∷◌, Option, Some, None, String, option_map, map, if◌then◌else◌}
use Rattle.std.specs.BTreeMap.{BTreeMap, get_by_text}
use Rattle.std.specs.Str.{chars, IsUtf8}
use Rattle.std.specs.declared.snapshot.Snapshot.{Snapshot}
use Rattle.html_types.specs.Text.{same_text}
use Rattle.serial.specs.Scripts.{Fetched}
use Rattle.core_definitions.specs.Journal.{Journal}
use Rattle.core_steps.specs.declared.fetch.Fetch.{Fetch}
use Rattle.core_steps.specs.Fetches.{fetched_of}

-- nothing is read, fetched or done
abbrev pub empty_journal : Journal
empty_journal = record { pieces = []; ending = None; fetches = []; events = [] }

-- the texts of the pieces that were read
abbrev pub pieces_read : List (Snapshot (List ℕ)) → List (List ℕ)
pieces_read = map (λ (p : Snapshot (List ℕ)). p.value)

-- what came of the script of that name, where it was fetched
abbrev pub found : List ℕ → List (List ℕ × Fetched) → Option Fetched
found name [] = None
found name (f ∷ fs) = if same_text f.0 name then Some f.1 else found name fs

-- A map has for each name what is found so.
pub record AreIndexed {Y : Type 0} (m : BTreeMap (String Y) Fetch) (fs : List (List ℕ × Fetched)) : Type 0 where
  pub each : (bytes : List ℕ) → IsUtf8 bytes → found (chars bytes) fs ≡ option_map fetched_of (get_by_text m bytes)
