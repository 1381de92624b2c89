use Rattle.std.proofs.Common.{◌≡◌}
use Rattle.standard.specs.Elements.{is_meant}
use Rattle.standard.specs.Stack.{item_found}
use Rattle.builder_state.proofs.walks.finds_item.Given as goal

abbrev pub invariant-loop-element : goal.invariant-loop-element
invariant-loop-element l =
    goal.iterator-loop-element.can_next l.element-iterator × goal.iterator-loop-element.is_finite l.element-iterator
    × (item_found (is_meant l.who l.token) l.element-iterator ≡ item_found (is_meant l.who l.token) l.stack)
