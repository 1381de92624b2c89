use Rattle.std.proofs.Common.{◌≡◌, ◌++◌, length, reverse, drop, Some}
use Rattle.standard.specs.Stack.{without_open}
use Rattle.builder_state.proofs.walks.place_of.Given as goal

abbrev pub invariant-loop-element : goal.invariant-loop-element
invariant-loop-element l =
    (without_open (Some l.id) l.stack ≡ reverse (drop (length l.walk) (reverse l.stack)) ++ without_open (Some l.id) l.walk)
    × (reverse l.walk ++ drop (length l.walk) (reverse l.stack) ≡ reverse l.stack)

abbrev pub decreases-loop-element : goal.decreases-loop-element
decreases-loop-element l = length l.walk
