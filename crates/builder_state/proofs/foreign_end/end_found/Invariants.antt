use Rattle.std.proofs.Common.{◌≡◌, length}
use Rattle.std.specs.Str.{chars}
use Rattle.builder_state.specs.ForeignEnds.{end_found}
use Rattle.builder_state.proofs.foreign_end.end_found.Given as goal

abbrev pub invariant-loop-last : goal.invariant-loop-last
invariant-loop-last l =
    end_found (chars l.lower) l.walk ≡ end_found (chars l.lower) l.stack

abbrev pub decreases-loop-last : goal.decreases-loop-last
decreases-loop-last l = length l.walk
