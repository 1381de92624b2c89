use Rattle.std.proofs.Common.{◌≡◌, length}
use Rattle.standard.specs.Reset.{reset_mode}
use Rattle.builder_state.proofs.reset.mode_to_reset_to.Given as goal

abbrev pub invariant-loop-element : goal.invariant-loop-element
invariant-loop-element l = reset_mode l.context l.walk l.head l.modes ≡ reset_mode l.context l.stack l.head l.modes

abbrev pub decreases-loop-element : goal.decreases-loop-element
decreases-loop-element l = length l.walk
