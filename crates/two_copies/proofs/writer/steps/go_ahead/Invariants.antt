use Rattle.std.proofs.Common.{◌-◌, length}
use Rattle.two_copies.specs.Log.{InStep}
use Rattle.two_copies.proofs.writer.steps.go_ahead.Given as goal

abbrev pub invariant-loop-ahead : goal.invariant-loop-ahead
invariant-loop-ahead g l = InStep g.T.Absorb.applied (g.T.Absorb.state l.fn.shown) (g.T.Absorb.state l.spare) l.fn.log.items 0 l.ahead

abbrev pub decreases-loop-ahead : goal.decreases-loop-ahead
decreases-loop-ahead g l = length l.fn.log.items - l.ahead
