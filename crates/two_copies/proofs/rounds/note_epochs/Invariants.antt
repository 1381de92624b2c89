use Rattle.std.proofs.Common.{◌≡◌, length, take}
use Rattle.two_copies.specs.Sides.{IsPlanned, IsSameSeat, plan_of}
use Rattle.two_copies.specs.declared.board.Plan.{Plan}
use Rattle.two_copies.proofs.rounds.note_epochs.Given as goal

abbrev pub invariant-loop-reader : goal.invariant-loop-reader
invariant-loop-reader g l = let p : Plan g.row.T.Denot = plan_of l.fn.place l.fn.like in IsSameSeat l.fn.place l.place × IsPlanned l.place (record p { last = take l.reader l.last.items }) × (length l.last.items ≡ length l.fn.last.items)
