use Rattle.std.proofs.Common.{◌≡◌}
use Rattle.standard.specs.Elements.{is_meant}
use Rattle.standard.specs.Formatting.{listed}
use Rattle.builder_state.proofs.formatting.is_listed.Given as goal

abbrev pub invariant-loop-entry : goal.invariant-loop-entry
invariant-loop-entry l =
    goal.iterator-loop-entry.can_next l.entry-iterator × goal.iterator-loop-entry.is_finite l.entry-iterator
    × (listed (is_meant l.who l.token) l.entry-iterator ≡ listed (is_meant l.who l.token) l.formats)
