-- The journal of a page's run replays in the core.
use Rattle.std.specs.Prelude.{◌≡◌, ℕ}
use Rattle.standard.specs.Entities.{Entities}
use Rattle.core_definitions.specs.Core.{Setup, Core, first_core, Runs}
use Rattle.core_definitions.specs.Journal.{IsRunOf, with_replies}
use Rattle.core_steps.specs.Sides.{Shown}

-- In each run in which all is as the journal has it, its events, each of them enabled, lead the core to what is shown.
pub record ReplaysTo (es : Entities) (ahead : ℕ) (s : Shown) : Type 0 where
  pub replays : (x : Setup) → IsRunOf es ahead s.journal x →
      (c : Core) × Runs x (with_replies s.journal.events) (first_core x) c
      × (c.desk.phase ≡ s.desk.phase) × (c.desk.own.side.doc ≡ s.desk.own.side.doc) × (c.desk.own.side.lines ≡ s.desk.own.side.lines)
