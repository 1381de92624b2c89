use Rattle.std.proofs.Common.{◌≡◌, ◌++◌, length}
use Rattle.standard.specs.Stack.{below, from_on}
use Rattle.builder_adoption.proofs.stack.take_below.Given as goal

abbrev pub invariant-loop-taken : goal.invariant-loop-taken
invariant-loop-taken l = (l.taken.items ++ below l.id l.stack ≡ below l.id l.initial.stack) × (from_on l.id l.stack ≡ from_on l.id l.initial.stack)

abbrev pub decreases-loop-taken : goal.decreases-loop-taken
decreases-loop-taken l = length l.stack
