use Rattle.std.proofs.Common.{◌≡◌}
use Rattle.standard.specs.Elements.{is_word}
use Rattle.standard.specs.Formatting.{entry_named}
use Rattle.builder_state.proofs.formatting.entry_of.Given as goal

abbrev pub invariant-loop-entry : goal.invariant-loop-entry
invariant-loop-entry l =
    goal.iterator-loop-entry.can_next l.entry-iterator × goal.iterator-loop-entry.is_finite l.entry-iterator
    × (entry_named (is_word l.word) l.entry-iterator ≡ entry_named (is_word l.word) l.formats)
