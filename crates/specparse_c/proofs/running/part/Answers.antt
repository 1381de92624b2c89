use Rattle.std.proofs.Common.{take, drop, ap}
use Rattle.std.proofs.Math.Nat.{add-sub_cancel_left}
use Rattle.specparse_c.proofs.running.part.Goals as goal

pub returns : goal.returns
returns c =
    let s = c.args.span in
    (ap (λ k. take k (drop s.start c.args.bytes.now)) (add-sub_cancel_left s.start s.length), c.if-lacks.false)
