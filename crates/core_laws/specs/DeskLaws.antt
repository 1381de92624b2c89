-- What is claimed of the document's side, for every list of enabled events.
use Rattle.std.specs.Prelude.{◌≡◌, ℕ, ◌+◌, List, Some}
use Rattle.serial.specs.Serial.{World, Moment, Result, Outcome, IsSerial, Passes, Leads}
use Rattle.standard_laws.specs.Laws.{GoesOnFrom}
use Rattle.core_definitions.specs.declared.event.Event.{Event}
use Rattle.core_definitions.specs.Batches.{Piece}
use Rattle.core_definitions.specs.Verdict.{Watch, IsKnownAt}
use Rattle.core_definitions.specs.Desk.{done, Desk, first_desk, pieces_with, with_more, MovesBy}
use Rattle.core_definitions.specs.Core.{Setup, whole_page}
use Rattle.core_definitions.specs.StandsFor.{StandsFor}

-- the desk to which events lead, each of them enabled
abbrev pub IsReached : Setup → List Event → Desk → Type 0
IsReached x vs d = MovesBy x.ahead x.world vs (first_desk (pieces_with x.pieces (Some x.ending))) d

-- It stands for a moment that the serial parse passes through, and after more events for no earlier one.
abbrev pub AlwaysStandsFor : Type 0
AlwaysStandsFor =
    (x : Setup) (vs us : List Event) (d d' : Desk) → IsReached x vs d → MovesBy x.ahead x.world us d d' →
    (m : Moment) × (m' : Moment) × Passes (whole_page x) x.world m × StandsFor d m × Leads x.ending x.world m m' × StandsFor d' m'

-- where it is done, result, lines and tree are the serial parse's
abbrev pub EndsAsSerial : Type 0
EndsAsSerial =
    (x : Setup) (vs : List Event) (d : Desk) (r : Result) (o : Outcome) → IsReached x vs d → d.phase ≡ done r → IsSerial (whole_page x) x.world o →
    (r ≡ o.result) × (d.own.side.lines ≡ o.last.side.lines) × (d.own.side.doc.tree ≡ o.last.side.doc.tree)

-- no later event changes that
abbrev pub EndStays : Type 0
EndStays = (ahead : ℕ) (w : World) (us : List Event) (d d' : Desk) (r : Result) → d.phase ≡ done r → MovesBy ahead w us d d' → (d'.phase ≡ done r) × (d'.own ≡ d.own)

-- its lines begin those of the outcome
abbrev pub LinesBegin : Type 0
LinesBegin = (x : Setup) (vs : List Event) (d : Desk) (o : Outcome) → IsReached x vs d → IsSerial (whole_page x) x.world o → GoesOnFrom d.own.side.lines o.last.side.lines

-- where it stands, as many scripts of the page have failed as epochs are over
abbrev pub FailuresAreEpochs : Type 0
FailuresAreEpochs =
    (x : Setup) (vs : List Event) (d : Desk) → IsReached x vs d → (m : Moment) × (v : Watch) × IsKnownAt (whole_page x) x.world m v × StandsFor d m × (v.failed + 1 ≡ d.epoch)

-- pieces that are handed in later make no difference to what was done before
abbrev pub MoreMayFollow : Type 0
MoreMayFollow = (ahead : ℕ) (w : World) (vs : List Event) (xs : List Piece) (d d' : Desk) → MovesBy ahead w vs d d' → MovesBy ahead w vs (with_more xs d) (with_more xs d')
