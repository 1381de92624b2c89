use Rattle.std.proofs.Common.{◌≡◌, ◌+◌, ◌∷◌, sym, ◌∙◌, ap}
use Rattle.tokenizer.specs.Whole.{all_of, begins_with, piece}
use Rattle.tokenizer.proofs.WholeLemmas.{piece-cons, all_of-cons}
use Rattle.tokenizer.proofs.whole.part_end.Goals as goal

part_is : (c : goal.After-rest_of) → piece c.args.text.now c.args.from c.rest_of.result ≡ c.in-Some.c ∷ piece c.args.text.now (c.args.from + 1) c.rest_of.result
part_is c = piece-cons c.args.text.now c.args.from c.rest_of.result c.in-Some.c c.utf8.text c.requires c.in-Some.ensures.boundary c.rest_of.ensures.onward c.in-Some.ensures.read

pub returns-then-is_of-clause-begins : goal.returns-then-is_of-clause-begins
returns-then-is_of-clause-begins c = ap (begins_with c.args.part) (part_is c) ∙ sym c.is_of.ensures ∙ c.if-is_of.true

pub returns-then-is_of-clause-all : goal.returns-then-is_of-clause-all
returns-then-is_of-clause-all c =
    ap (all_of c.args.part) (part_is c) ∙ all_of-cons c.args.part c.in-Some.c (piece c.args.text.now (c.args.from + 1) c.rest_of.result) (sym c.is_of.ensures ∙ c.if-is_of.true) c.rest_of.ensures.all
