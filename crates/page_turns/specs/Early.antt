-- What comes of those who fetch scripts early, an answer at a time.
use Rattle.std.specs.Prelude.{◌≡◌, ◌≤◌, ◌<◌, ◌⊎◌, ℕ, true, List, None}
use Rattle.outside.specs.Outside.{Seen}
use Rattle.serial.specs.Scripts.{Fetched, is_lawful}
use Rattle.core_steps.specs.Fetches.{fetched_of}
use Rattle.core_steps.specs.Journals.{found}
use Rattle.page_turns.specs.declared.prefetch.Early.{Early}
use Rattle.page_turns.specs.declared.prefetch.Early.TheVariants.{Unasked, Nothing, Came}
use Rattle.page_turns.specs.Scripts.{Met, IsGiven, GivesMore}

-- This was given besides, and nothing else.
pub record GivesOneMore (name : List ℕ) (f : Fetched) (old new : Met) : Type 0 where
  pub more : GivesMore old new
  pub here : IsGiven name f new
  pub only : (n : List ℕ) (g : Fetched) → IsGiven n g new → IsGiven n g old ⊎ (n ≡ name)

-- The script of that name is a file's, and wasn't met yet.
abbrev pub IsNew : List ℕ → Met → Type 0
IsNew name met = (is_lawful name ≡ true) × (found name met ≡ None)

-- What was given before and behind, and how much is to come: an answer is taken, but where none is to come for the name.
abbrev pub TakesNext : Early → Met → Met → Met → ℕ → ℕ → Type 0
TakesNext Unasked met old new n n' = (new ≡ old) × (n' ≤ n)
TakesNext Nothing met old new n n' = (new ≡ old) × (n' < n)
TakesNext (Came name fetch) met old new n n' = GivesOneMore name (fetched_of fetch) old new × IsNew name met × (n' < n)

-- Memory ran out, perhaps when one more had been given, and then no file was begun.
pub data FailsToBring (met old new : Met) (before after : Seen) : Type 0 where
  none_given : new ≡ old → FailsToBring met old new before after
  one_given : (name : List ℕ) (f : Fetched) → GivesOneMore name f old new → IsNew name met → after ≡ before → FailsToBring met old new before after
