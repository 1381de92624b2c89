use Rattle.std.proofs.Common.{◌≡◌, drop}
use Rattle.two_copies.specs.Log.{InStep}
use Rattle.two_copies.proofs.writer.steps.catch_up.Given as goal

abbrev pub invariant-loop-behind : goal.invariant-loop-behind
invariant-loop-behind g l = InStep g.T.Absorb.applied (g.T.Absorb.state l.fn.shown) (g.T.Absorb.state l.spare) l.log.items l.behind l.fn.ahead × (drop l.behind l.log.items ≡ drop l.fn.behind l.fn.log.items)

abbrev pub decreases-loop-behind : goal.decreases-loop-behind
decreases-loop-behind g l = l.behind
