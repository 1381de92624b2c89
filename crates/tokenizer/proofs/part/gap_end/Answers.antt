use Rattle.std.proofs.Common.{sym, ◌∙◌, ap, [], ◌∷◌, arith}
use Rattle.tokenizer.specs.declared.part.Part.TheVariants as part
use Rattle.tokenizer.specs.Whole.{all_of, piece}
use Rattle.tokenizer.proofs.WholeLemmas.{piece-none, piece-push, all_of-append, all_of-one}
use Rattle.tokenizer.proofs.part.gap_end.Goals as goal

pub loop-c-init : goal.loop-c-init
loop-c-init c = record {
  boundary = c.requires;
  onward = omega arith;
  all = ap (all_of part.Gap) (piece-none c.args.text.now c.args.from);
}

pub loop-c-preserved : goal.loop-c-preserved
loop-c-preserved c =
    let i = c.loop-c.invariant in
    record {
      boundary = c.in-Some.ensures.boundary;
      onward = omega (arith, i.onward);
      all = ap (all_of part.Gap) (piece-push c.args.text.now c.args.from c.loop-c.at c.in-Some.c c.utf8.text c.requires i.boundary i.onward c.in-Some.ensures.read)
          ∙ all_of-append part.Gap (piece c.args.text.now c.args.from c.loop-c.at) (c.in-Some.c ∷ []) i.all (all_of-one part.Gap c.in-Some.c (sym c.is_of.ensures ∙ c.if-not-is_of.false));
    }
