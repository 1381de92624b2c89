-- A verdict, and an event of the document's side, come to one result.
use Rattle.std.specs.Prelude.{◌≡◌, ℕ}
use Rattle.standard.specs.Parser.{Parser}
use Rattle.serial.specs.Serial.{World, Moment}
use Rattle.core_definitions.specs.declared.event.Event.{Event}
use Rattle.core_definitions.specs.declared.verdict.Verdict.{Verdict}
use Rattle.core_definitions.specs.Verdict.{IsVerdict}
use Rattle.core_definitions.specs.Settling.{Settles}
use Rattle.core_definitions.specs.Desk.{Desk, Moves}

abbrev pub OneVerdict : Type 0
OneVerdict = (held now : Parser) (a b : Verdict) → IsVerdict held now a → IsVerdict held now b → a ≡ b

abbrev pub SettlesOnce : Type 0
SettlesOnce = (w : World) (m a b : Moment) → Settles w m a → Settles w m b → a ≡ b

abbrev pub OneMove : Type 0
OneMove = (ahead : ℕ) (w : World) (v : Event) (d a b : Desk) → Moves ahead w v d a → Moves ahead w v d b → a ≡ b
