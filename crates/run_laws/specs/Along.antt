-- What holds along the events of a journal.
use Rattle.std.specs.Prelude.{◌≡◌, ◌≤◌, ◌<◌, ◌⊎◌, ℕ, suc, nat_lt, false, List, [], ◌∷◌, Some, slice_get}
use Rattle.standard.specs.Entities.{Entities}
use Rattle.serial.specs.Serial.{World, Moment}
use Rattle.core_definitions.specs.declared.event.Event.{Event}
use Rattle.core_definitions.specs.declared.event.Event.TheVariants.{Send, Take, Do, Arrive}
use Rattle.core_definitions.specs.Batches.{Piece}
use Rattle.core_definitions.specs.Core.{Setup, Request, request_for, whole_page}
use Rattle.core_definitions.specs.Desk.{Desk, first_desk, pieces_with, outstanding, stale, Moves}
use Rattle.core_definitions.specs.Journal.{Journal, IsRunOf}
use Rattle.core_definitions.specs.Verdict.{Watch, IsKnownAt}

-- enabled events one behind another, of each of which that is so, with the desk before it
abbrev pub MovesWith : (Event → Desk → Type 0) → ℕ → World → List Event → Desk → Desk → Type 0
MovesWith P ahead w [] d d' = d' ≡ d
MovesWith P ahead w (v ∷ vs) d d' = (d1 : Desk) × P v d × Moves ahead w v d d1 × MovesWith P ahead w vs d1 d'

-- In each run in which all is as the journal has it, its events, each of them enabled, lead on from the page's first desk, and of each of
-- them that is so.
abbrev pub HoldsAlong : (Setup → Event → Desk → Type 0) → Entities → ℕ → Journal → Type 0
HoldsAlong P es ahead j = (x : Setup) → IsRunOf es ahead j x → (d : Desk) × MovesWith (P x) x.ahead x.world j.events (first_desk (pieces_with x.pieces (Some x.ending))) d

-- how many of the events are a Send, and how many a Take
abbrev pub sends_in : List Event → ℕ
sends_in [] = 0
sends_in (Send ∷ vs) = suc (sends_in vs)
sends_in (v ∷ vs) = sends_in vs

abbrev pub takes_in : List Event → ℕ
takes_in [] = 0
takes_in (Take ∷ vs) = suc (takes_in vs)
takes_in (v ∷ vs) = takes_in vs

-- the request is for the first of the pieces to be sent
abbrev pub IsForFirst : List Piece → Desk → Request → Type 0
IsForFirst [] d r = ⊥
IsForFirst (x ∷ xs) d r = r ≡ request_for d x

-- A Send sends the request that stands at its place among these.
abbrev pub SendsOf : List Request → Event → Desk → Type 0
SendsOf requests Send d = (r : Request) × (slice_get requests d.sent ≡ Some r) × IsForFirst d.to_send d r
SendsOf requests _ d = Unit {0}

-- the credit is used up, or all of the page is sent
abbrev pub IsSentAhead : ℕ → Desk → Type 0
IsSentAhead ahead d = (nat_lt (outstanding d) ahead ≡ false) ⊎ (d.to_send ≡ [])

-- before a batch is executed or a script runs on, and before a script arrives
abbrev pub LooksAhead : ℕ → Event → Desk → Type 0
LooksAhead ahead Do d = IsSentAhead ahead d
LooksAhead ahead (Arrive name) d = IsSentAhead ahead d
LooksAhead ahead _ d = Unit {0}

-- Of these requests, the one whose reply is taken and dropped is of an epoch that is over: as many scripts of the page as its number
-- have failed, at a moment that the serial parse passes through.
pub record IsOver (x : Setup) (requests : List Request) (d : Desk) : Type 0 where
  pub request : Request
  pub at : slice_get requests d.taken ≡ Some request
  pub moment : Moment
  pub watch : Watch
  pub known : IsKnownAt (whole_page x) x.world moment watch
  pub failed : request.epoch ≤ watch.failed

-- A reply is dropped only so.
abbrev pub DropsOver : List Request → Setup → Event → Desk → Type 0
DropsOver requests x Take d = 0 < stale d → IsOver x requests d
DropsOver requests x _ d = Unit {0}
