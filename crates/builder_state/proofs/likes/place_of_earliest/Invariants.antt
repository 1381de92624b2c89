use Rattle.std.proofs.Common.{◌≡◌, ◌++◌, length, reverse, drop}
use Rattle.standard.specs.Formatting.{likes, without_earliest}
use Rattle.builder_state.proofs.likes.place_of_earliest.Given as goal

abbrev pub invariant-loop-entry : goal.invariant-loop-entry
invariant-loop-entry l =
    (l.left ≡ likes l.tag l.walk)
    × (without_earliest l.tag l.formats ≡ reverse (drop (length l.walk) (reverse l.formats)) ++ without_earliest l.tag l.walk)
    × (reverse l.walk ++ drop (length l.walk) (reverse l.formats) ≡ reverse l.formats)

abbrev pub decreases-loop-entry : goal.decreases-loop-entry
decreases-loop-entry l = length l.walk
