-- How many requests are sent, and how many replies are dropped.
use Rattle.std.specs.Prelude.{◌≡◌, ◌≤◌, ◌+◌, ◌*◌, ℕ, List, length}
use Rattle.serial.specs.Serial.{Moment}
use Rattle.core_definitions.specs.declared.event.Event.{Event}
use Rattle.core_definitions.specs.Verdict.{Watch, IsKnownAt, AreVerdicts}
use Rattle.core_definitions.specs.Desk.{Desk, outstanding}
use Rattle.core_definitions.specs.Core.{Setup, whole_page, Core, first_core, Runs}
use Rattle.core_definitions.specs.StandsFor.{StandsFor}

-- By so many failed scripts: each that failed had at most `ahead` replies dropped, and each piece and the ending sent at most once more.
pub record IsBounded (x : Setup) (failed : ℕ) (d : Desk) : Type 0 where
  pub dropped : d.dropped ≤ x.ahead * failed
  pub sent : d.sent ≤ (length x.pieces + 1) * (failed + 1)

-- never are more than `ahead` requests outstanding
abbrev pub CreditIsKept : Type 0
CreditIsKept = (x : Setup) (vs : List Event) (c : Core) → Runs x vs (first_core x) c → outstanding c.desk ≤ x.ahead

-- by the scripts of the page that have failed at the moment for which the document's side stands; as many as epochs are over
abbrev pub BoundedWhereItStands : Type 0
BoundedWhereItStands =
    (x : Setup) (vs : List Event) (c : Core) → Runs x vs (first_core x) c →
    (m : Moment) × (v : Watch) × IsKnownAt (whole_page x) x.world m v × StandsFor c.desk m × (v.failed + 1 ≡ c.desk.epoch) × IsBounded x v.failed c.desk

-- by the scripts of the page that fail in the whole parse
abbrev pub BoundedByTheParse : Type 0
BoundedByTheParse = (x : Setup) (vs : List Event) (c : Core) (v : Watch) → Runs x vs (first_core x) c → AreVerdicts (whole_page x) x.world v → IsBounded x v.failed c.desk
