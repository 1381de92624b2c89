use Rattle.std.proofs.Common.{◌≡◌}
use Rattle.standard.specs.Reset.{select_mode}
use Rattle.builder_state.proofs.reset.mode_of_select.Given as goal

abbrev pub invariant-loop-element : goal.invariant-loop-element
invariant-loop-element l =
    goal.iterator-loop-element.can_next l.element-iterator × goal.iterator-loop-element.is_finite l.element-iterator
    × (select_mode l.element-iterator ≡ select_mode l.fn.above)
