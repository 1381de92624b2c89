use Rattle.std.proofs.Common.{◌≡◌, length}
use Rattle.standard.specs.Formatting.{clear_to_marker}
use Rattle.builder_state.proofs.formatting.clear_back.Given as goal

abbrev pub invariant-loop-last : goal.invariant-loop-last
invariant-loop-last l = clear_to_marker l.formats ≡ clear_to_marker l.initial.formats

abbrev pub decreases-loop-last : goal.decreases-loop-last
decreases-loop-last l = length l.formats
