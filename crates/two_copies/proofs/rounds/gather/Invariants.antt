use Rattle.std.proofs.Common.{◌≡◌, ◌-◌, ◌^◌, ◌≤◌}
use Rattle.two_copies.specs.Sides.{IsPlanned, IsSameSeat, plan_of}
use Rattle.two_copies.specs.declared.board.Plan.{Plan}
use Rattle.two_copies.proofs.rounds.gather.Given as goal

abbrev pub invariant-loop-left : goal.invariant-loop-left
invariant-loop-left g l = let p : Plan g.row.T.Denot = plan_of l.fn.place l.fn.part in IsSameSeat l.fn.place l.place × IsPlanned l.place (record p { left = l.left }) × (l.left ≤ l.fn.left) × (l.part ≡ record l.fn.part { count = 2 ^ 63 - l.left })

abbrev pub decreases-loop-left : goal.decreases-loop-left
decreases-loop-left g l = l.left
