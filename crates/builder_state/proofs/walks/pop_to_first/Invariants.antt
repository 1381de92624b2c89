use Rattle.std.proofs.Common.{◌≡◌, ◌≤◌, length}
use Rattle.standard.specs.Stack.{pop_to_root}
use Rattle.builder_state.proofs.walks.pop_to_first.Given as goal

abbrev pub invariant-loop-stack : goal.invariant-loop-stack
invariant-loop-stack l = (pop_to_root l.stack ≡ pop_to_root l.initial.stack) × (length l.stack ≤ length l.initial.stack)

abbrev pub decreases-loop-stack : goal.decreases-loop-stack
decreases-loop-stack l = length l.stack
