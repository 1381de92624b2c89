-- What is claimed of the core, for every list of enabled events of both sides.
use Rattle.std.specs.Prelude.{◌≡◌, ◌<◌, ℕ, false, IsTrue, List}
use Rattle.serial.specs.Serial.{Moment, Result, Outcome, IsSerial, Passes, Leads}
use Rattle.standard_laws.specs.Laws.{GoesOnFrom}
use Rattle.core_definitions.specs.declared.event.Event.{Event}
use Rattle.core_definitions.specs.declared.event.Event.TheVariants.{Arrive}
use Rattle.standard.specs.Parser.{Parser}
use Rattle.core_definitions.specs.declared.verdict.Verdict.{Verdict}
use Rattle.core_definitions.specs.Verdict.{IsVerdict}
use Rattle.core_definitions.specs.Desk.{Phase, free, tagged, waits, done, Desk, has_arrived}
use Rattle.core_definitions.specs.Core.{Setup, whole_page, Core, first_core, enabled, Steps, Runs}
use Rattle.core_definitions.specs.StandsFor.{StandsFor}
use Rattle.core_definitions.specs.Journal.{own_events}
use Rattle.core_laws.specs.DeskLaws.{IsReached}

-- The document's side of the core is the desk: what it takes is the answer that is called for, whatever order the events came in.
abbrev pub CoreIsDesk : Type 0
CoreIsDesk = (x : Setup) (vs : List Event) (c : Core) → Runs x vs (first_core x) c → IsReached x (own_events vs) c.desk

-- ---- what holds of the desk holds of the core

-- The document's side stands for a moment that the serial parse passes through, and after more events for no earlier one.
abbrev pub AlwaysStandsFor : Type 0
AlwaysStandsFor =
    (x : Setup) (vs us : List Event) (c c' : Core) → Runs x vs (first_core x) c → Runs x us c c' →
    (m : Moment) × (m' : Moment) × Passes (whole_page x) x.world m × StandsFor c.desk m × Leads x.ending x.world m m' × StandsFor c'.desk m'

-- where it is done, result, lines and tree are the serial parse's
abbrev pub EndsAsSerial : Type 0
EndsAsSerial =
    (x : Setup) (vs : List Event) (c : Core) (r : Result) (o : Outcome) → Runs x vs (first_core x) c → c.desk.phase ≡ done r → IsSerial (whole_page x) x.world o →
    (r ≡ o.result) × (c.desk.own.side.lines ≡ o.last.side.lines) × (c.desk.own.side.doc.tree ≡ o.last.side.doc.tree)

-- no later event changes that
abbrev pub EndStays : Type 0
EndStays =
    (x : Setup) (vs us : List Event) (c c' : Core) (r : Result) → Runs x vs (first_core x) c → c.desk.phase ≡ done r → Runs x us c c' →
    (c'.desk.phase ≡ done r) × (c'.desk.own ≡ c.desk.own)

-- its lines begin those of the outcome
abbrev pub LinesBegin : Type 0
LinesBegin = (x : Setup) (vs : List Event) (c : Core) (o : Outcome) → Runs x vs (first_core x) c → IsSerial (whole_page x) x.world o → GoesOnFrom c.desk.own.side.lines o.last.side.lines

-- ---- never stuck

-- no event but arrivals is enabled
abbrev pub IsIdle : Setup → Core → Type 0
IsIdle x c = (v : Event) → IsTrue (enabled x v c) → (name : List ℕ) × (v ≡ Arrive name)

-- the parse is over, or awaits a script that hasn't arrived
abbrev pub IsOverOrAwaits : Phase → Desk → Type 0
IsOverOrAwaits free d = ⊥
IsOverOrAwaits (tagged i held) d = ⊥
IsOverOrAwaits (waits name held) d = has_arrived name d ≡ false
IsOverOrAwaits (done r) d = Unit {0}

abbrev pub NeverStuck : Type 0
NeverStuck = (x : Setup) (vs : List Event) (c : Core) → 0 < x.ahead → Runs x vs (first_core x) c → IsIdle x c → IsOverOrAwaits c.desk.phase c.desk

-- ---- steps

-- whether two states are the same can be told, as `Machine::same` does
abbrev pub DecidesSame : Type 0
DecidesSame = (held now : Parser) → (c : Verdict) × IsVerdict held now c

-- each event that is enabled has its step, and only one
abbrev pub EnabledSteps : Type 0
EnabledSteps = DecidesSame → (x : Setup) (vs : List Event) (c : Core) (v : Event) → Runs x vs (first_core x) c → IsTrue (enabled x v c) → (c' : Core) × Steps x v c c'

abbrev pub OneStep : Type 0
OneStep = (x : Setup) (v : Event) (c a b : Core) → Steps x v c a → Steps x v c b → a ≡ b
