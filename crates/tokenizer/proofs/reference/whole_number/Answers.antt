use Rattle.std.proofs.Common.{◌+◌, arith}
use Rattle.tokenizer.specs.Whole.{piece}
use Rattle.tokenizer.proofs.WholeLemmas.{piece-push}
use Rattle.tokenizer.proofs.NumberLemmas.{Counts-more}
use Rattle.tokenizer.proofs.reference.whole_number.Goals as goal

pub loop-c-preserved : goal.loop-c-preserved
loop-c-preserved c =
    let text = c.args.text.now in
    let from = c.args.from in
    let at = c.loop-c.at in
    let i = c.loop-c.invariant in
    let x = c.in-Some-ascii_at.c in
    record {
      boundary = c.in-Some-ascii_at.ensures.boundary;
      onward = omega (arith, i.onward);
      counts = Counts-more c.in-Some.begun.hexadecimal (piece text from at) (piece text from (at + 1)) x c.loop-c.code c.in-Some-longer.more
          (piece-push text from at x c.utf8.text c.requires i.boundary (omega (arith, i.onward)) c.in-Some-ascii_at.ensures.read)
          i.counts c.in-Some-longer.ensures.digit c.in-Some-longer.ensures.code;
    }
