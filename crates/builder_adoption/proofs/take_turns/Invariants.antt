use Rattle.std.proofs.Common.{◌≡◌}
use Rattle.standard.specs.Elements.{is_word}
use Rattle.standard.specs.Adoption.{turned, turns}
use Rattle.html_types.specs.declared.instruction.Turn.TheVariants.{More}
use Rattle.builder_adoption.proofs.take_turns.Given as goal

abbrev pub invariant-loop-left : goal.invariant-loop-left
invariant-loop-left l = turns l.left (is_word l.name) (turned l.state l.ops l.turn) ≡ turns 8 (is_word l.name) (turned l.initial.state l.initial.ops More)

abbrev pub decreases-loop-left : goal.decreases-loop-left
decreases-loop-left l = l.left
