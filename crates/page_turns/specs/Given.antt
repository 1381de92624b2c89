-- What the outside gave of a file.
use Rattle.std.specs.Prelude.{◌≡◌, ◌+◌, ◌≤◌, ◌⊎◌, ℕ, List, [], ◌∷◌, ◌++◌, length, take, Option, Some, None, IfSome, IsSomeAnd}
use Rattle.std.specs.Option.{option_map}
use Rattle.outside.specs.Outside.{Rose, NeverFall, Paths, Begun, Seen}
use Rattle.outside.specs.declared.traits.Port.{Port}
use Rattle.outside.specs.declared.traits.Port.TheVariants.{Entities, List as list_port}
use Rattle.core_steps.specs.declared.fetch.Fetch.{Fetch}
use Rattle.core_steps.specs.declared.fetch.Fetch.TheVariants as fetches
use Rattle.page_turns.specs.Calls.{HasFailed}

-- What came of a file that was begun and read. `unmet`: memory ran out before that was known.
pub data Given (A : Type 0) : Type 0 where
  unmet : Given A
  missing : Given A
  faulted : Given A
  got : A → Given A

abbrev pub given_of : Fetch → Given (List ℕ)
given_of fetches.Missing = missing
given_of fetches.Faulted = faulted
given_of (fetches.Got bytes) = got bytes.items

abbrev pub FaultsRose : Port → Seen → Seen → Type 0
FaultsRose port before after = Rose (before.faults port) (after.faults port)

-- Every call at the port succeeded: its count of faults stands where it stood.
abbrev pub NoFault : Port → Seen → Seen → Type 0
NoFault port before after = after.faults port ≡ before.faults port

abbrev pub AbsencesRose : Port → Seen → Seen → Type 0
AbsencesRose port before after = Rose (before.absences port) (after.absences port)

-- the file at the path, or that there is none, where the files are told
abbrev pub file_at : Seen → List ℕ → Option (Option (List ℕ))
file_at before path = option_map (λ map. map path) before.files

-- Of a file one byte past the limit is read at most. Its bytes, and that there is none, are known only where every call succeeded; and
-- it counts as faulted only where a call for this file failed.
abbrev pub MayGive : ℕ → Port → List ℕ → Seen → Seen → Given (List ℕ) → Type 0
MayGive limit port path before after unmet = Unit {0}
MayGive limit port path before after missing = AbsencesRose port before after × IfSome (file_at before path) (λ file. file ≡ None) × NoFault port before after
MayGive limit port path before after faulted = FaultsRose port before after × HasFailed port path before after
MayGive limit port path before after (got bytes) = IfSome (file_at before path) (λ file. IsSomeAnd file (λ whole. bytes ≡ take (limit + 1) whole)) × NoFault port before after

-- Where the file is told, these bytes were read of it, and the port has left the rest.
pub record AreRead (file : Option (Option (List ℕ))) (left : Option (List ℕ)) (read : List ℕ) : Type 0 where
  pub so_far : IfSome file (λ f. IsSomeAnd f (λ whole. (rest : List ℕ) × (whole ≡ read ++ rest) × (left ≡ Some rest)))

-- How far a file was read in a call: nothing was begun at the port, or the file couldn't be begun and the port has nothing left,
-- or it was read to one byte past the limit at most.
pub data ReadTo (limit : ℕ) (port : Port) (path : List ℕ) (before after : Seen) : Type 0 where
  untouched : after.left port ≡ before.left port → ReadTo limit port path before after
  unbegun : IfSome (after.left port) (λ rest. rest ≡ []) → AbsencesRose port before after ⊎ FaultsRose port before after → ReadTo limit port path before after
  begun : (read : List ℕ) → AreRead (file_at before path) (after.left port) read → length read ≤ limit + 1 → ReadTo limit port path before after

-- A port's file was begun once at most.
abbrev pub BegunOnce : List ℕ → Paths → Paths → Type 0
BegunOnce path before after = Begun before after [] ⊎ Begun before after (path ∷ [])

-- Nothing was done at a port.
pub record IsLeftAlone (port : Port) (before after : Seen) : Type 0 where
  pub left : after.left port ≡ before.left port
  pub begun : after.begun port ≡ before.begun port
  pub calls : after.calls port ≡ before.calls port
  pub no_fault : NoFault port before after

-- What reading a page and its scripts leaves alone: the files, the ports of the entities and of the list of pages, and that no count falls.
pub record KeepsEntities (before after : Seen) : Type 0 where
  pub files : after.files ≡ before.files
  pub left : after.left Entities ≡ before.left Entities
  pub begun : after.begun Entities ≡ before.begun Entities
  pub calls : after.calls Entities ≡ before.calls Entities
  pub no_fault : NoFault Entities before after
  pub list : IsLeftAlone list_port before after
  pub faults : NeverFall before.faults after.faults
  pub absences : NeverFall before.absences after.absences
