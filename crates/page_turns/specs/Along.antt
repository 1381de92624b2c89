-- What is known of a journal's events while the page is read.
use Rattle.std.specs.Prelude.{◌≡◌, ◌⊎◌, ℕ, ◌-◌, nat_lt, false, List, [], ◌∷◌, ◌++◌, length, map, Option, Some, None, IfSome, IsSome, slice_get}
use Rattle.std.specs.List.{AllByRecursion}
use Rattle.html_types.specs.declared.ending.Ending.{Ending}
use Rattle.serial.specs.Serial.{World}
use Rattle.core_definitions.specs.declared.event.Event.{Event}
use Rattle.core_definitions.specs.declared.event.Event.TheVariants.{Send, Do, Arrive}
use Rattle.core_definitions.specs.Batches.{Piece}
use Rattle.core_definitions.specs.Core.{Request, joined}
use Rattle.core_definitions.specs.Desk.{Phase, waits, Desk, first_desk, pieces_with, with_more, outstanding}
use Rattle.core_definitions.specs.Journal.{Knows}
use Rattle.core_definitions.specs.StandsFor.{text_of}
use Rattle.run_laws.specs.Along.{MovesWith, sends_in, IsForFirst}
use Rattle.speculation.specs.Asking.{Asked}
use Rattle.core_steps.specs.Fetches.{names_of}
use Rattle.core_steps.specs.Sides.{Shown, Shows, DoesShow, journaled}
use Rattle.page_turns.specs.Scripts.{Met, GivenEarly}

-- nothing of desk and journal was changed
abbrev pub Stays : Shown → Shown → Type 0
Stays old new = new ≡ record old { given = new.given; spent = new.spent }

-- a Do, of whose lines perhaps a front was written
pub record Did (old new : Shown) : Type 0 where
  pub does : DoesShow old.entities old.journal.fetches old.desk new.desk
  pub others : new ≡ record (journaled Do new.desk old) { given = new.given; spent = new.spent }

-- Memory ran out before the Do was made; or it was made.
abbrev pub MayDo : Shown → Shown → Type 0
MayDo old new = Stays old new ⊎ Did old new

-- Pieces were handed in, the last perhaps with the page's ending.
pub record Hands (old new : Shown) : Type 0 where
  pub pieces : List Piece
  pub desk : new.desk ≡ with_more pieces old.desk
  pub page : pieces_with new.journal.pieces new.journal.ending ≡ pieces_with old.journal.pieces None ++ pieces
  pub others : new ≡ record old { desk = new.desk; journal = record old.journal { pieces = new.journal.pieces; ending = new.journal.ending }; spent = new.spent }

-- no more is to come where its ending was read
abbrev pub IsSentSoFar : ℕ → Option Ending → Desk → Type 0
IsSentSoFar ahead ending d = (nat_lt (outstanding d) ahead ≡ false) ⊎ (IsSome ending × (d.to_send ≡ []))

abbrev pub LooksSoFar : ℕ → Option Ending → Event → Desk → Type 0
LooksSoFar ahead ending Do d = IsSentSoFar ahead ending d
LooksSoFar ahead ending (Arrive name) d = IsSentSoFar ahead ending d
LooksSoFar ahead ending _ d = Unit {0}

-- A Send sends the request that stands at its place among these, which says where in the page its piece begins.
abbrev pub AsksOf : List Asked → List (List ℕ) → Event → Desk → Type 0
AsksOf asks pieces Send d =
    (a : Asked) × (slice_get asks d.sent ≡ Some a) × IsForFirst d.to_send d a.request × (a.from ≡ length (joined pieces) - length (text_of d.to_send))
AsksOf asks pieces _ d = Unit {0}

abbrev pub IsAwaitedIn : List ℕ → Phase → Type 0
IsAwaitedIn name (waits n held) = n ≡ name
IsAwaitedIn name _ = ⊥

-- A script arrives where it is awaited, or it is one of those that were given early. No other does.
abbrev pub FetchesAwaited : Met → Event → Desk → Type 0
FetchesAwaited given (Arrive name) d = IsAwaitedIn name d.phase ⊎ GivenEarly name given
FetchesAwaited given _ d = Unit {0}

abbrev pub GoesSoFar : Met → List Asked → List (List ℕ) → ℕ → Option Ending → Event → Desk → Type 0
GoesSoFar given asks pieces ahead ending v d = AsksOf asks pieces v d × LooksSoFar ahead ending v d × FetchesAwaited given v d

abbrev pub requests_of : List Asked → List Request
requests_of asks = map (λ a. a.request) asks

abbrev pub HasArrived : List ℕ → List Event → Type 0
HasArrived name events = (earlier : List Event) × (later : List Event) × (events ≡ earlier ++ Arrive name ∷ later)

-- The journal's Sends are those of the requests that were put, where they are told, its Does and arrivals look ahead, and no script
-- arrives that is neither awaited nor was given early; each that was fetched has arrived.
pub record Goes (given : Met) (asks : Option (List Asked)) (s : Shown) : Type 0 where
  pub asked : List Asked
  pub told : IfSome asks (λ all. all ≡ asked)
  pub count : length asked ≡ s.desk.sent
  pub sends : length asked ≡ sends_in s.journal.events
  pub arrived : AllByRecursion (λ name. HasArrived name s.journal.events) (names_of s.journal.fetches)
  pub along : (w : World) → w.entities ≡ s.entities → Knows s.journal.fetches w →
      (d : Desk) × MovesWith (GoesSoFar given asked s.journal.pieces s.ahead s.journal.ending) s.ahead w s.journal.events (first_desk (pieces_with s.journal.pieces s.journal.ending)) d
      × Shows d s.desk
