use Rattle.std.proofs.Common.{◌≡◌, ◌≤◌, length}
use Rattle.standard.specs.Elements.{is_meant}
use Rattle.standard.specs.Stack.{implied}
use Rattle.builder_state.proofs.walks.pop_implied.Given as goal

abbrev pub invariant-loop-last : goal.invariant-loop-last
invariant-loop-last l =
    (implied (is_meant l.but l.token) l.stack ≡ implied (is_meant l.but l.token) l.initial.stack) × (length l.stack ≤ length l.initial.stack)

abbrev pub decreases-loop-last : goal.decreases-loop-last
decreases-loop-last l = length l.stack
