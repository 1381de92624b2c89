use Rattle.std.proofs.Common.{◌≡◌, ◌≤◌, length}
use Rattle.standard.specs.Elements.{is_meant}
use Rattle.standard.specs.Stack.{until}
use Rattle.builder_state.proofs.walks.pop_until.Given as goal

abbrev pub invariant-loop-last : goal.invariant-loop-last
invariant-loop-last l =
    (until (is_meant l.who l.token) l.stack ≡ until (is_meant l.who l.token) l.initial.stack) × (length l.stack ≤ length l.initial.stack)

abbrev pub decreases-loop-last : goal.decreases-loop-last
decreases-loop-last l = length l.stack
