use Rattle.std.proofs.Common.{◌≡◌, ◌+◌, ◌≤◌, length}
use Rattle.standard.specs.Formatting.{likes}
use Rattle.builder_state.proofs.likes.count_alike.Given as goal

abbrev pub invariant-loop-entry : goal.invariant-loop-entry
invariant-loop-entry l =
    goal.iterator-loop-entry.can_next l.entry-iterator × goal.iterator-loop-entry.is_finite l.entry-iterator
    × ((l.count + likes l.tag l.entry-iterator ≡ likes l.tag l.formats) × (l.count + length l.entry-iterator ≤ length l.formats))
