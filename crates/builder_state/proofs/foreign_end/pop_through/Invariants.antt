use Rattle.std.proofs.Common.{◌≡◌, ◌≤◌, length}
use Rattle.std.specs.Str.{chars}
use Rattle.builder_state.specs.ForeignEnds.{through}
use Rattle.builder_state.proofs.foreign_end.pop_through.Given as goal

abbrev pub invariant-loop-last : goal.invariant-loop-last
invariant-loop-last l =
    (through (chars l.lower) l.stack ≡ through (chars l.lower) l.initial.stack) × (length l.stack ≤ length l.initial.stack)

abbrev pub decreases-loop-last : goal.decreases-loop-last
decreases-loop-last l = length l.stack
