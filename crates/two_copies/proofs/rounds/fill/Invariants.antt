use Rattle.std.proofs.Common.{◌≡◌, ◌-◌, ◌^◌, ◌<◌}
use Rattle.two_copies.specs.Sides.{IsPlanned, IsSameSeat, plan_of, unit}
use Rattle.two_copies.specs.declared.board.Plan.{Plan}
use Rattle.two_copies.proofs.rounds.fill.Given as goal

abbrev pub invariant-loop-reader : goal.invariant-loop-reader
invariant-loop-reader g l = let p : Plan g.row.T.Denot = plan_of l.fn.place l.fn.part in IsSameSeat l.fn.place l.place × (l.part ≡ record l.fn.part { count = 2 ^ 63 - l.reader })
    × ((u : _) × IsPlanned l.place (record p { filled = l.reader; spare = u }) × (0 < l.reader → u ≡ unit l.fn.part))
