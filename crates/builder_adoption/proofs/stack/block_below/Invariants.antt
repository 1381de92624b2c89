use Rattle.std.proofs.Common.{◌≡◌, None}
use Rattle.standard.specs.Stack.{block_below}
use Rattle.builder_adoption.proofs.stack.block_below.Given as goal

abbrev pub invariant-loop-element : goal.invariant-loop-element
invariant-loop-element l =
    goal.iterator-loop-element.can_next l.element-iterator × goal.iterator-loop-element.is_finite l.element-iterator
    × (block_below l.id l.found l.element-iterator ≡ block_below l.id None l.stack)
