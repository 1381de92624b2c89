use Rattle.std.proofs.Common.{ap}
use Rattle.tree_watch.proofs.Boards.{IsOpen-with, changes-appended}
use Rattle.tree_watch.proofs.board.Board.note.Goals as goal

pub invariant_of-self : goal.invariant_of-self
invariant_of-self c =
    let same = c.append.ensures.desk in
    IsOpen-with _ _ _ _ _ _ _ _ c.self.inside.over (ap (λ d. d.place.me.0.client.leads) same) (ap (λ d. d.shown.value) same) (ap (λ d. d.place.me.0.client.seen) same)
    (λ going. changes-appended c.append.result _ _ c.args.change _ (c.self.invariant.changes going) c.append.ensures.pending) c.self.invariant
