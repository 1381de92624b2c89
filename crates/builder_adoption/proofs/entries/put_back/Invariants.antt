use Rattle.std.proofs.Common.{◌≡◌, ◌++◌, length}
use Rattle.builder_adoption.proofs.entries.put_back.Given as goal

abbrev pub invariant-loop-entry : goal.invariant-loop-entry
invariant-loop-entry l = l.taken.items ++ l.formats ≡ l.initial.taken.items ++ l.initial.formats

abbrev pub decreases-loop-entry : goal.decreases-loop-entry
decreases-loop-entry l = length l.taken.items
