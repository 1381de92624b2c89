use Rattle.std.proofs.Common.{◌≡◌, ◌++◌, length}
use Rattle.standard.specs.Formatting.{later_than, entry_on}
use Rattle.builder_adoption.proofs.entries.take_later.Given as goal

abbrev pub invariant-loop-taken : goal.invariant-loop-taken
invariant-loop-taken l = (l.taken.items ++ later_than l.id l.formats ≡ later_than l.id l.initial.formats) × (entry_on l.id l.formats ≡ entry_on l.id l.initial.formats)

abbrev pub decreases-loop-taken : goal.decreases-loop-taken
decreases-loop-taken l = length l.formats
