use Rattle.std.proofs.Common.{◌≡◌, ◌+◌, ◌∷◌, true≢false, sym, ◌∙◌, ap}
use Rattle.tokenizer.specs.Whole.{all_of, begins_name, is_alpha, piece}
use Rattle.tokenizer.specs.declared.part.Part.TheVariants as part
use Rattle.tokenizer.proofs.WholeLemmas.{piece-cons, all_of-cons}
use Rattle.tokenizer.proofs.whole.name_end.Goals.{in-Alpha, in_default-matches}
use Rattle.tokenizer.proofs.whole.name_end.Goals as goal

name_is : (c : goal.After-rest_of) → piece c.args.text.now c.args.from c.rest_of.result ≡ c.in-Some.c ∷ piece c.args.text.now (c.args.from + 1) c.rest_of.result
name_is c = piece-cons c.args.text.now c.args.from c.rest_of.result c.in-Some.c c.utf8.text c.requires c.in-Some.ensures.boundary c.rest_of.ensures.onward c.in-Some.ensures.read

pub returns-then-is_of-clause-begins : goal.returns-then-is_of-clause-begins
returns-then-is_of-clause-begins c =
    ap begins_name (name_is c) ∙ ap is_alpha (sym c.class_of.ensures) ∙ elim c.match-matches.branch [
      | in-Alpha w ↦ ap is_alpha w.in-Alpha.is
      | in_default-matches w ↦ absurd (true≢false (sym c.if-matches.true ∙ w.matches-is))
    ]

pub returns-then-is_of-clause-name : goal.returns-then-is_of-clause-name
returns-then-is_of-clause-name c =
    ap (all_of part.TagName) (name_is c) ∙ all_of-cons part.TagName c.in-Some.c (piece c.args.text.now (c.args.from + 1) c.rest_of.result) (sym c.is_of.ensures ∙ c.if-is_of.true) c.rest_of.ensures.all
