use Rattle.std.proofs.Common.{◌+◌, arith}
use Rattle.tokenizer.specs.Whole.{piece}
use Rattle.tokenizer.proofs.WholeLemmas.{piece-push}
use Rattle.tokenizer.proofs.NumberLemmas.{Counts-first}
use Rattle.tokenizer.proofs.reference.number_begins.Goals as goal

pub returns-in-Some-longer-clause-counts : goal.returns-in-Some-longer-clause-counts
returns-in-Some-longer-clause-counts c =
    let text = c.args.text.now in
    let from = c.args.from in
    let opened = c.in-Some.opened in
    let o = c.in-Some.ensures in
    let x = c.in-Some-ascii_at.c in
    Counts-first opened.hexadecimal (piece text from opened.at) (piece text from (opened.at + 1)) x c.in-Some-longer.code
    (piece-push text from opened.at x c.utf8.text c.requires o.boundary (omega (arith, o.onward)) c.in-Some-ascii_at.ensures.read)
    o.opens c.in-Some-longer.ensures.digit c.in-Some-longer.ensures.code
