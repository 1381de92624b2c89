use Rattle.std.proofs.Common.{◌≡◌, ◌≤◌, length}
use Rattle.standard.specs.Stack.{implied_thoroughly}
use Rattle.builder_state.proofs.walks.pop_implied_thoroughly.Given as goal

abbrev pub invariant-loop-last : goal.invariant-loop-last
invariant-loop-last l = (implied_thoroughly l.stack ≡ implied_thoroughly l.initial.stack) × (length l.stack ≤ length l.initial.stack)

abbrev pub decreases-loop-last : goal.decreases-loop-last
decreases-loop-last l = length l.stack
