use Rattle.std.proofs.Common.{◌≡◌, ◌≤◌, length}
use Rattle.standard.specs.Instructions.{pop_foreign}
use Rattle.builder_state.proofs.foreign_end.pop_foreign.Given as goal

abbrev pub invariant-loop-last : goal.invariant-loop-last
invariant-loop-last l =
    (pop_foreign l.stack ≡ pop_foreign l.initial.stack) × (length l.stack ≤ length l.initial.stack)

abbrev pub decreases-loop-last : goal.decreases-loop-last
decreases-loop-last l = length l.stack
