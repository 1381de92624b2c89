-- What is claimed of the numbers of a desk at which the parse finished.
use Rattle.std.specs.Prelude.{◌≡◌, ◌+◌, ◌*◌, List}
use Rattle.serial.specs.Serial.{finished, Outcome, IsSerial}
use Rattle.core_definitions.specs.declared.event.Event.{Event}
use Rattle.core_definitions.specs.Verdict.{Watch, AreVerdicts}
use Rattle.core_definitions.specs.Desk.{done, Desk}
use Rattle.core_definitions.specs.Core.{Setup, whole_page}
use Rattle.core_laws.specs.DeskLaws.{IsReached}

-- An epoch is over for each script of the page that failed. Each script of the page that was in hand took a realm of ids, and each that failed
-- one more. Scripts wrote and ran as in the serial parse.
pub record Tallies (x : Setup) (d : Desk) (o : Outcome) : Type 0 where
  pub watch : Watch
  pub verdicts : AreVerdicts (whole_page x) x.world watch
  pub epochs : d.epoch ≡ watch.failed + 1
  pub realms : d.realm ≡ watch.kept + 2 * watch.failed + 1
  pub written : d.own.side.written ≡ o.last.side.written
  pub executed : d.own.side.executed ≡ o.last.side.executed

-- where the parse finished
abbrev pub TalliesAsSerial : Type 0
TalliesAsSerial =
    (x : Setup) (vs : List Event) (d : Desk) (o : Outcome) → IsReached x vs d → d.phase ≡ done finished → IsSerial (whole_page x) x.world o → Tallies x d o
