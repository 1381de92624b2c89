use Rattle.std.proofs.Common.{◌≡◌, ◌↔◌}
use Rattle.shared_stack.proofs.stack.same_walks.Given as goal

abbrev pub invariant-loop-entry : goal.invariant-loop-entry
invariant-loop-entry g l =
    (goal.iterator-loop-entry g).can_next l.entry-iterator × (goal.iterator-loop-entry g).is_finite l.entry-iterator
    × ((l.entry-iterator ≡ l.other) ↔ (l.fn.walk ≡ l.fn.other))
