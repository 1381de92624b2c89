use Rattle.std.proofs.Common.{◌≡◌}
use Rattle.standard.specs.Stack.{open_in_scope}
use Rattle.builder_state.proofs.walks.has_in_scope.Given as goal

abbrev pub invariant-loop-element : goal.invariant-loop-element
invariant-loop-element l =
    goal.iterator-loop-element.can_next l.element-iterator × goal.iterator-loop-element.is_finite l.element-iterator
    × (open_in_scope l.scope l.id l.element-iterator ≡ open_in_scope l.scope l.id l.stack)
