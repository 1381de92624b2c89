use Rattle.std.proofs.Common.{arith}
use Rattle.builder_adoption.proofs.Depth.{adopted_depth}
use Rattle.builder_adoption.proofs.adopt.Goals as goal

pub put-requires : goal.put-requires
put-requires c = omega (arith, c.take-state.ensures.bounded, adopted_depth _ _ _ _ _ _ c.in_ok-adopted.ensures)
