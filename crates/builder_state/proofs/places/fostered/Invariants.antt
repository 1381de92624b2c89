use Rattle.std.proofs.Common.{◌≡◌, length}
use Rattle.standard.specs.Stack.{foster_place}
use Rattle.builder_state.proofs.places.fostered.Given as goal

abbrev pub invariant-loop-last : goal.invariant-loop-last
invariant-loop-last l = foster_place l.walk ≡ foster_place l.stack

abbrev pub decreases-loop-last : goal.decreases-loop-last
decreases-loop-last l = length l.walk
