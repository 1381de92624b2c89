use Rattle.std.proofs.Common.{◌≡◌, ◌++◌, length}
use Rattle.builder_adoption.proofs.stack.put_back.Given as goal

abbrev pub invariant-loop-element : goal.invariant-loop-element
invariant-loop-element l = l.taken.items ++ l.stack ≡ l.initial.taken.items ++ l.initial.stack

abbrev pub decreases-loop-element : goal.decreases-loop-element
decreases-loop-element l = length l.taken.items
