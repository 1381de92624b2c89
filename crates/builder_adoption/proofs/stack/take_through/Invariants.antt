use Rattle.std.proofs.Common.{◌≡◌, ◌++◌, length}
use Rattle.standard.specs.Stack.{through, above}
use Rattle.builder_adoption.proofs.stack.take_through.Given as goal

abbrev pub invariant-loop-taken : goal.invariant-loop-taken
invariant-loop-taken l = (l.taken.items ++ through l.id l.stack ≡ through l.id l.initial.stack) × (above l.id l.stack ≡ above l.id l.initial.stack)

abbrev pub decreases-loop-taken : goal.decreases-loop-taken
decreases-loop-taken l = length l.stack
