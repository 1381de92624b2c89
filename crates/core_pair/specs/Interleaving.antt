-- What holds of a pair, whatever events were taken and in whatever order.
use Rattle.std.specs.Prelude.{◌≡◌, ◌≤◌, ◌+◌, ℕ, Bool, true, false, List, ◌++◌}
use Rattle.serial.specs.Serial.{World, Moment, Result, Outcome, IsSerial, Passes, Leads}
use Rattle.standard_laws.specs.Laws.{GoesOnFrom}
use Rattle.core_definitions.specs.declared.event.Event.{Event}
use Rattle.core_definitions.specs.Verdict.{Watch, IsKnownAt, AreVerdicts}
use Rattle.core_definitions.specs.Desk.{Phase, free, tagged, waits, done, Desk, has_arrived, outstanding}
use Rattle.core_definitions.specs.Core.{Setup, whole_page, Core, first_core, Runs}
use Rattle.core_definitions.specs.Journal.{Knows}
use Rattle.core_definitions.specs.StandsFor.{StandsFor}
use Rattle.core_laws.specs.Bounds.{IsBounded}
use Rattle.core_laws.specs.CoreLaws.{IsIdle}
use Rattle.core_steps.specs.Sides.{Standing, running, awaiting, standing_of}
use Rattle.core_pair.specs.Pairs.{Paired, setup_of, is_busy, Reaches}

-- ---- where it stands

-- while the sides can go on without a script it isn't awaited
abbrev pub unless_busy : Bool → Standing → Standing
unless_busy true (awaiting name) = running
unless_busy b s = s

abbrev pub standing_of_core : Setup → Core → Standing
standing_of_core x c = unless_busy (is_busy x c) (standing_of c.desk)

-- the script in hand awaits the file of that name, which hasn't arrived; the name is pending at level 0
abbrev pub IsAwaited : List ℕ → Phase → Desk → Type 0
IsAwaited name free d = ⊥
IsAwaited name (tagged i held) d = ⊥
IsAwaited name (waits n held) d = (n ≡ name) × (has_arrived n d ≡ false)
IsAwaited name (done r) d = ⊥

-- A script is awaited exactly where no event but arrivals is enabled and its file hasn't arrived.
abbrev pub Awaits : List ℕ → Paired → Type 0
Awaits name p = IsIdle (setup_of p) p.core × IsAwaited name p.core.desk.phase p.core.desk

-- ---- the document's side and the serial parse

-- Its events lead to it in the definitions' core, each of them enabled there.
abbrev pub IsReached : Paired → Type 0
IsReached p = Reaches (setup_of p) p.events p.core

-- After each front of its events the document's side stood for a moment that the serial parse passes through; and now it stands for none
-- that is earlier.
abbrev pub AlwaysStandsFor : Paired → Type 0
AlwaysStandsFor p =
    (vs us : List Event) → p.events ≡ vs ++ us →
    (c : Core) × (m : Moment) × (m' : Moment) × Runs (setup_of p) vs (first_core (setup_of p)) c × Passes (whole_page (setup_of p)) (setup_of p).world m × StandsFor c.desk m ×
    Leads p.ending (setup_of p).world m m' × StandsFor p.core.desk m'

-- where it is done, result, lines and tree are the serial parse's
abbrev pub EndsAsSerial : Paired → Type 0
EndsAsSerial p =
    (r : Result) (o : Outcome) → p.core.desk.phase ≡ done r → IsSerial (whole_page (setup_of p)) (setup_of p).world o →
    (r ≡ o.result) × (p.core.desk.own.side.lines ≡ o.last.side.lines) × (p.core.desk.own.side.doc.tree ≡ o.last.side.doc.tree)

-- Where it is done, that is so in each world with those entities in which the fetches are as they were: whatever else would come of scripts.
abbrev pub EndsInEach : Paired → Type 0
EndsInEach p =
    (w : World) → w.entities ≡ p.entities → Knows p.journal.fetches w →
    (r : Result) (o : Outcome) → p.core.desk.phase ≡ done r → IsSerial (whole_page (setup_of p)) w o →
    (r ≡ o.result) × (p.core.desk.own.side.lines ≡ o.last.side.lines) × (p.core.desk.own.side.doc.tree ≡ o.last.side.doc.tree)

-- its lines begin those of the outcome
abbrev pub LinesBegin : Paired → Type 0
LinesBegin p = (o : Outcome) → IsSerial (whole_page (setup_of p)) (setup_of p).world o → GoesOnFrom p.core.desk.own.side.lines o.last.side.lines

-- where it is done it stays so
abbrev pub EndStays : Core → Core → Type 0
EndStays c c' = (r : Result) → c.desk.phase ≡ done r → (c'.desk.phase ≡ done r) × (c'.desk.own.side.doc ≡ c.desk.own.side.doc) × (c'.desk.own.side.lines ≡ c.desk.own.side.lines)

-- ---- how many requests are sent, and how many replies dropped

-- never are more than `ahead` requests outstanding
abbrev pub CreditIsKept : Paired → Type 0
CreditIsKept p = outstanding p.core.desk ≤ p.ahead

-- by the scripts of the page that have failed at the moment for which the document's side stands; as many as epochs are over
abbrev pub BoundedWhereItStands : Paired → Type 0
BoundedWhereItStands p =
    (m : Moment) × (v : Watch) × IsKnownAt (whole_page (setup_of p)) (setup_of p).world m v × StandsFor p.core.desk m × (v.failed + 1 ≡ p.core.desk.epoch) × IsBounded (setup_of p) v.failed p.core.desk

-- by the scripts of the page that fail in the whole parse
abbrev pub BoundedByTheParse : Paired → Type 0
BoundedByTheParse p = (v : Watch) → AreVerdicts (whole_page (setup_of p)) (setup_of p).world v → IsBounded (setup_of p) v.failed p.core.desk
