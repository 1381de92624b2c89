use Rattle.std.proofs.Common.{◌≡◌}
use Rattle.standard.specs.Elements.{is_meant}
use Rattle.html_types.specs.declared.instruction.Who.TheVariants.{Own}
use Rattle.standard.specs.Stack.{end_found}
use Rattle.builder_state.proofs.walks.finds_end.Given as goal

abbrev pub invariant-loop-element : goal.invariant-loop-element
invariant-loop-element l =
    goal.iterator-loop-element.can_next l.element-iterator × goal.iterator-loop-element.is_finite l.element-iterator
    × (end_found (is_meant Own l.token) l.element-iterator ≡ end_found (is_meant Own l.token) l.stack)
