use Rattle.std.proofs.Common.{◌<◌, sym, ap, ◌∙◌, arith}
use Rattle.tokenizer.specs.Comments.{begins_inside}
use Rattle.tokenizer.proofs.WholeLemmas.{piece-cons}
use Rattle.tokenizer.proofs.comment.text_end.Goals as goal

pub returns-else-end-from-clause-begins : goal.returns-else-end-from-clause-begins
returns-else-end-from-clause-begins c =
    let from = c.args.from in
    let end = c.inside_end-end.result in
    let some : from < end = omega (arith, c.inside_end-end.ensures.onward, c.if-end-from.false) in
    ap begins_inside (piece-cons c.args.text.now from end c.in-Some.c c.utf8.text c.requires c.in-Some.ensures.boundary (omega (arith, some)) c.in-Some.ensures.read)
    ∙ sym c.may_begin.ensures ∙ c.if-not-may_begin.false
