use Rattle.std.proofs.Common.{◌≡◌, ◌≤◌, length}
use Rattle.standard.specs.Elements.{is_one_of}
use Rattle.standard.specs.Stack.{pop_to}
use Rattle.builder_state.proofs.walks.pop_back_to.Given as goal

abbrev pub invariant-loop-last : goal.invariant-loop-last
invariant-loop-last l =
    (pop_to (is_one_of l.group) l.stack ≡ pop_to (is_one_of l.group) l.initial.stack) × (length l.stack ≤ length l.initial.stack)

abbrev pub decreases-loop-last : goal.decreases-loop-last
decreases-loop-last l = length l.stack
