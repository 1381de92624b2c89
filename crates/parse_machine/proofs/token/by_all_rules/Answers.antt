use Rattle.std.proofs.Common.{arith}
use Rattle.parse_machine.proofs.Rounds.{rounds_end}
use Rattle.parse_machine.proofs.token.by_all_rules.Goals as goal

pub returns-in-Once-round : goal.returns-in-Once-round
returns-in-Once-round c = rounds_end c.loop-left.left c.in-Once-round.field-0 _ _ _ _ _ (omega (arith, c.loop-left-test.false)) c.in-Once-round.is c.loop-left.invariant
