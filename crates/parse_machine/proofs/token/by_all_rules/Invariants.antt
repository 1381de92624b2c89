use Rattle.std.proofs.Common.{◌≡◌}
use Rattle.standard.specs.Rules.{process, rounds}
use Rattle.parse_machine.specs.Rounds.{rounded, rounds_left}
use Rattle.parse_machine.proofs.token.by_all_rules.Given as goal

abbrev pub invariant-loop-left : goal.invariant-loop-left
invariant-loop-left l = rounds_left l.left l.token (rounded l.builder l.ops l.round) ≡ process rounds l.fn.first l.token l.fn.builder l.fn.ops

abbrev pub decreases-loop-left : goal.decreases-loop-left
decreases-loop-left l = l.left
