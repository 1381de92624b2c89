use Rattle.std.proofs.Common.{◌≡◌, ◌++◌, length}
use Rattle.standard.specs.Formatting.{lost, kept}
use Rattle.builder_state.proofs.formatting.take_lost.Given as goal

abbrev pub invariant-loop-id : goal.invariant-loop-id
invariant-loop-id l =
    (l.tags.items ++ lost l.stack l.formats ≡ lost l.stack l.initial.formats)
    × (kept l.stack l.formats ≡ kept l.stack l.initial.formats)

abbrev pub decreases-loop-id : goal.decreases-loop-id
decreases-loop-id l = length l.formats
