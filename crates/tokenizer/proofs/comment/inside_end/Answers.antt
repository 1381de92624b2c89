use Rattle.std.proofs.Common.{arith}
use Rattle.tokenizer.specs.Whole.{piece}
use Rattle.tokenizer.proofs.WholeLemmas.{piece-none, piece-split}
use Rattle.tokenizer.proofs.CommentLemmas.{continues-none, continues-both, Continues-same}
use Rattle.tokenizer.proofs.comment.inside_end.Goals as goal

pub loop-next-init : goal.loop-next-init
loop-next-init c = record {
  boundary = c.requires;
  onward = omega arith;
  inside = Continues-same (piece-none c.args.text.now c.args.from) continues-none;
}

pub loop-next-preserved : goal.loop-next-preserved
loop-next-preserved c =
    let text = c.args.text.now in
    let i = c.loop-next.invariant in
    let n = c.in-Some.ensures in
    record {
      boundary = n.boundary;
      onward = omega (arith, i.onward, n.onward);
      inside = Continues-same
          (piece-split text c.args.from c.loop-next.at c.in-Some.next c.utf8.text c.requires i.boundary i.onward (omega (arith, n.onward)))
          (continues-both (piece text c.args.from c.loop-next.at) (piece text c.loop-next.at c.in-Some.next) i.inside n.inside);
    }
