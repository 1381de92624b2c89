use Rattle.std.proofs.Common.{◌≡◌, length}
use Rattle.standard.specs.Adoption.{climb_at, climb}
use Rattle.builder_adoption.proofs.climb.climb_all.Given as goal

abbrev pub invariant-loop-element : goal.invariant-loop-element
invariant-loop-element l =
    climb l.left l.elements (climb_at l.formats l.next l.ops l.reached.kept.items l.reached.last l.reached.bookmark)
    ≡ climb 3 l.fn.elements (climb_at l.initial.formats l.initial.next l.initial.ops l.initial.reached.kept.items l.initial.reached.last l.initial.reached.bookmark)

abbrev pub decreases-loop-element : goal.decreases-loop-element
decreases-loop-element l = length l.elements
