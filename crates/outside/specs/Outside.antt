-- What the calls of an outside do to its files and its counts.
use Rattle.std.specs.Prelude.{◌<◌, ◌≡◌, ◌≢◌, ◌⊎◌, ℕ, Bool, ◌+◌, ◌^◌, ◌≤◌, List, ◌++◌, Option, IfSome, IsSomeAnd, Result}
use Rattle.outside.specs.declared.traits.Failed.{Failed}
use Rattle.outside.specs.declared.traits.Port.{Port}

-- the bytes of the file at a path
abbrev pub Files : Type 0
Files = List ℕ → Option (List ℕ)

-- paths in the order in which they were begun, where they are told
abbrev pub Paths : Type 0
Paths = Option (List (List ℕ))

-- A call at a port, and what it answered: the file at a path was to be begun, and whether there is one; or so many bytes at most
-- were to be read, and how many were.
pub data Call : Type 0 where
  begins : List ℕ → Result Bool Failed → Call
  reads : ℕ → Result ℕ Failed → Call

-- calls in the order in which they were made, where they are told
abbrev pub Calls : Type 0
Calls = Option (List Call)

-- The count is greater than before, or stands at the last value of a u64.
abbrev pub Rose : ℕ → ℕ → Type 0
Rose before after = (before < after) ⊎ (2 ^ 64 ≤ after + 1)

-- no port's count falls
abbrev pub NeverFall : (Port → ℕ) → (Port → ℕ) → Type 0
NeverFall before after = (port : Port) → before port ≤ after port

-- every port but this has what it had
abbrev pub OthersStay : {X : Type 0} → Port → (Port → X) → (Port → X) → Type 0
OthersStay port before after = (other : Port) → other ≢ port → after other ≡ before other

-- These paths were begun: where the paths are told now, those so far were told before, and these come behind them.
abbrev pub Begun : Paths → Paths → List (List ℕ) → Type 0
Begun before after paths = IfSome after (λ now. IsSomeAnd before (λ so_far. now ≡ so_far ++ paths))

-- These calls were made: where the calls are told now, those so far were told before, and these come behind them.
abbrev pub Called : Calls → Calls → List Call → Type 0
Called before after calls = IfSome after (λ now. IsSomeAnd before (λ so_far. now ≡ so_far ++ calls))

-- What contracts see of an outside at a moment: the files, and of each port what it has left, the paths that were begun at it and
-- the calls that were made, where they are told; whether the latest begin at it began a file; and the counts.
pub record Seen : Type 0 where
  pub files : Option Files
  pub left : Port → Option (List ℕ)
  pub begun : Port → Paths
  pub calls : Port → Calls
  pub open_at : Port → Bool
  pub faults : Port → ℕ
  pub absences : Port → ℕ

-- What a call at a port leaves alone: the files, all of the other ports, and that no count falls.
pub record KeepsOthers (port : Port) (before after : Seen) : Type 0 where
  pub files : after.files ≡ before.files
  pub left : OthersStay port before.left after.left
  pub begun : OthersStay port before.begun after.begun
  pub calls : OthersStay port before.calls after.calls
  pub open_at : OthersStay port before.open_at after.open_at
  pub other_faults : OthersStay port before.faults after.faults
  pub other_absences : OthersStay port before.absences after.absences
  pub faults : NeverFall before.faults after.faults
  pub absences : NeverFall before.absences after.absences
