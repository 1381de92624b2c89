-- What was written where memory ran out or the sink failed: all lines of the events before the refused one, and a front of what that one was to
-- write.
use Rattle.std.specs.Prelude.{◌≡◌, ℕ, List, [], ◌∷◌, ◌++◌, flat_map, Option}
use Rattle.serial.specs.declared.script.Line.{Line}
use Rattle.standard.specs.Entities.{Entities}
use Rattle.serial.specs.Output.{line_text}
use Rattle.core_definitions.specs.declared.event.Event.TheVariants.{Do}
use Rattle.core_steps.specs.Sides.{Shown}
use Rattle.page_turns.specs.Taken.{TookWithFront}
use Rattle.page_turns.specs.Replaying.{ReplaysTo}

-- The journal has one event more than that of `before`, a Do, and these lines came of it.
pub record HasDone (before s : Shown) (more : List Line) : Type 0 where
  pub journal : s.journal ≡ record before.journal { events = before.journal.events ++ Do ∷ [] }
  pub lines : s.desk.own.side.lines ≡ before.desk.own.side.lines ++ more

-- What was to be written behind the lines of `before` when the parse was given up: nothing, where the refused event isn't in the journal or
-- writes nothing; or the lines of a Do, which is the last event in the journal.
pub data IsDue (s before : Shown) (text : List ℕ) : Type 0 where
  no_line : s ≡ before → text ≡ [] → IsDue s before text
  lines_of_do : (more : List Line) → HasDone before s more → text ≡ flat_map line_text more → IsDue s before text

-- The events before the refused one, each of them enabled, lead the core to `before`. The sink took all lines of that, and behind them a front
-- of what was due.
pub record WritesInPart (es : Entities) (ahead : ℕ) (taken taken' : Option (List ℕ)) (Due : Shown → List ℕ → Type 0) : Type 0 where
  pub before : Shown
  pub replays : ReplaysTo es ahead before
  pub due : List ℕ
  pub is_due : Due before due
  pub took : TookWithFront taken taken' (flat_map line_text before.desk.own.side.lines) due
