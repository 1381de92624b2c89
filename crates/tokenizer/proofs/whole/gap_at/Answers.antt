use Rattle.std.proofs.Common.{◌+◌, sym, ◌∙◌, ap}
use Rattle.std.specs.Prelude.{not}
use Rattle.tokenizer.specs.Whole.{is_gap, piece}
use Rattle.tokenizer.specs.declared.whole.Behind.TheVariants as behind
use Rattle.tokenizer.specs.declared.part.Part.TheVariants as part
use Rattle.tokenizer.proofs.WholeLemmas.{piece-cons, piece-none, all_of-cons}
use Rattle.tokenizer.proofs.whole.gap_at.Goals as goal

pub returns-then-is_of-clause-gap : goal.returns-then-is_of-clause-gap
returns-then-is_of-clause-gap c =
    ap (is_gap c.args.unquoted behind.Space) (piece-cons c.args.text.now c.args.from c.rest_of.result c.in-Some.c c.utf8.text c.requires c.in-Some.ensures.boundary c.rest_of.ensures.onward c.in-Some.ensures.read)
    ∙ all_of-cons part.Gap c.in-Some.c (piece c.args.text.now (c.args.from + 1) c.rest_of.result) (sym c.is_of.ensures ∙ c.if-is_of.true) c.rest_of.ensures.all

pub returns-then-unquoted-clause-gap : goal.returns-then-unquoted-clause-gap
returns-then-unquoted-clause-gap c = ap (is_gap c.args.unquoted behind.Value) (piece-none c.args.text.now c.args.from) ∙ c.if-unquoted.true

pub returns-else-unquoted-clause-gap : goal.returns-else-unquoted-clause-gap
returns-else-unquoted-clause-gap c = ap (is_gap c.args.unquoted behind.Nothing) (piece-none c.args.text.now c.args.from) ∙ ap not c.if-unquoted.false
