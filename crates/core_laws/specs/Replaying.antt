-- A journal replays in the core.
use Rattle.std.specs.Prelude.{◌≡◌, ℕ, List}
use Rattle.standard.specs.Entities.{Entities}
use Rattle.core_definitions.specs.declared.event.Event.{Event}
use Rattle.core_definitions.specs.Desk.{Desk}
use Rattle.core_definitions.specs.Core.{Setup, Core, first_core, Runs}
use Rattle.core_definitions.specs.Journal.{Journal, Replays, IsRunOf, with_replies, ReplaysInCore}
use Rattle.core_laws.specs.DeskLaws.{IsReached}

-- the desk to which events lead is that of the core to which they lead with each reply picked and given just before it is taken
abbrev pub DeskIsCore : Type 0
DeskIsCore = (x : Setup) (vs : List Event) (d : Desk) → IsReached x vs d → (c : Core) × Runs x (with_replies vs) (first_core x) c × (c.desk ≡ d)

-- so a journal that replays on the document's side replays in the core, to the same document, lines and phase
abbrev pub JournalsReplay : Type 0
JournalsReplay = (es : Entities) (ahead : ℕ) (j : Journal) (d : Desk) → Replays es ahead j d → ReplaysInCore es ahead j d.own.side d.phase

-- and its desk is reached in each run in which all is as the journal has it, with the pieces that are handed in later behind its own
abbrev pub JournalsAreReached : Type 0
JournalsAreReached =
    (es : Entities) (ahead : ℕ) (j : Journal) (d : Desk) → Replays es ahead j d → (x : Setup) → IsRunOf es ahead j x →
    (d' : Desk) × IsReached x j.events d' × (d'.own ≡ d.own) × (d'.phase ≡ d.phase)
