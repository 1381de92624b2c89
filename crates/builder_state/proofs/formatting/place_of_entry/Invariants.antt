use Rattle.std.proofs.Common.{◌≡◌, ◌++◌, length, reverse, drop}
use Rattle.standard.specs.Formatting.{later_than, entry_on}
use Rattle.builder_state.proofs.formatting.place_of_entry.Given as goal

abbrev pub invariant-loop-entry : goal.invariant-loop-entry
invariant-loop-entry l =
    (later_than l.id l.formats ≡ reverse (drop (length l.walk) (reverse l.formats)) ++ later_than l.id l.walk)
    × (entry_on l.id l.formats ≡ entry_on l.id l.walk)
    × (reverse l.walk ++ drop (length l.walk) (reverse l.formats) ≡ reverse l.formats)

abbrev pub decreases-loop-entry : goal.decreases-loop-entry
decreases-loop-entry l = length l.walk
