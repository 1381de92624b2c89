use Rattle.std.proofs.Common.{◌-◌, ◌<◌, length}
use Rattle.std.specs.Str.{IsCharBoundary}
use Rattle.entity_table.specs.Held.{Holds}
use Rattle.tokenizer.specs.Reference.{IsHeld}
use Rattle.tokenizer.specs.Whole.{piece}
use Rattle.tokenizer.proofs.reference.held_name.Given as goal

-- what was read is held, and the cursor holds it
abbrev pub invariant-loop-c : goal.invariant-loop-c
invariant-loop-c l = record {
  boundary : IsCharBoundary l.text l.at;
  onward : l.from < l.at;
  holds : Holds l.table l.cursor (piece l.text l.from l.at);
  held : IsHeld l.table (piece l.text l.from l.at);
}

abbrev pub decreases-loop-c : goal.decreases-loop-c
decreases-loop-c l = length l.text - l.at
