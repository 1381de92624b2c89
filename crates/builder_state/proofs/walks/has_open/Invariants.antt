use Rattle.std.proofs.Common.{◌≡◌}
use Rattle.standard.specs.Stack.{is_open}
use Rattle.builder_state.proofs.walks.has_open.Given as goal

abbrev pub invariant-loop-element : goal.invariant-loop-element
invariant-loop-element l =
    goal.iterator-loop-element.can_next l.element-iterator × goal.iterator-loop-element.is_finite l.element-iterator
    × (is_open l.id l.element-iterator ≡ is_open l.id l.stack)
