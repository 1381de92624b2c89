use Rattle.std.proofs.Common.{◌≡◌, ◌++◌, ◌-◌, length, take, flat_map}
use Rattle.std.specs.Str.{chars, IsCharBoundary}
use Rattle.serialiser.specs.Plain.{escaped_for}
use Rattle.serialiser.proofs.escapes.push_runs.Given as goal

-- the characters up to `at` were added
abbrev pub invariant-runs : goal.invariant-runs
invariant-runs l = record {
  boundary : IsCharBoundary l.text l.at;
  added : l.out ≡ l.initial.out ++ flat_map (escaped_for l.in_value) (chars (take l.at l.text));
}

abbrev pub decreases-runs : goal.decreases-runs
decreases-runs l = length l.text - l.at
