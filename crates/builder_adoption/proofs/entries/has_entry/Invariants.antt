use Rattle.std.proofs.Common.{◌≡◌}
use Rattle.standard.specs.Formatting.{has_entry}
use Rattle.builder_adoption.proofs.entries.has_entry.Given as goal

abbrev pub invariant-loop-entry : goal.invariant-loop-entry
invariant-loop-entry l =
    goal.iterator-loop-entry.can_next l.entry-iterator × goal.iterator-loop-entry.is_finite l.entry-iterator
    × (has_entry l.id l.entry-iterator ≡ has_entry l.id l.formats)
