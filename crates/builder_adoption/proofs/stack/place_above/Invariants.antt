use Rattle.std.proofs.Common.{◌≡◌, length}
use Rattle.standard.specs.Stack.{place_for, above}
use Rattle.builder_adoption.proofs.stack.place_above.Given as goal

abbrev pub invariant-loop-element : goal.invariant-loop-element
invariant-loop-element l = place_for l.foster (above l.id l.walk) l.stack ≡ place_for l.foster (above l.id l.stack) l.stack

abbrev pub decreases-loop-element : goal.decreases-loop-element
decreases-loop-element l = length l.walk
