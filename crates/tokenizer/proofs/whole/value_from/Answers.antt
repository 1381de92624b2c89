use Rattle.std.proofs.Common.{◌≡◌, true, sym, refl, ap, ◌∙◌, arith}
use Rattle.std.specs.Str.{chars}
use Rattle.tokenizer.specs.Whole.{all_of, value_part, piece}
use Rattle.tokenizer.specs.declared.part.Part.{Part}
use Rattle.tokenizer.proofs.WholeLemmas.{piece-split, Reads-run, Reads-append, Reads-same}
use Rattle.tokenizer.proofs.whole.value_from.Goals as goal

pub loop-value-init : goal.loop-value-init
loop-value-init c =
    let text = c.args.text.now in
    let from = c.args.from in
    let end = c.rest_of-end.result in
    let all : all_of (value_part c.args.quoting) (piece text from end) ≡ true = ap (λ (p : Part). all_of p (piece text from end)) (sym c.value_part.ensures) ∙ c.rest_of-end.ensures.all in
    record {
      boundary = c.rest_of-end.ensures.boundary;
      onward = c.rest_of-end.ensures.onward;
      reads = Reads-same c.args.table.now c.args.quoting refl (c.in_ok-value.ensures ∙ ap chars c.range.ensures.value) (Reads-run c.args.table.now c.args.quoting (piece text from end) all);
    }

pub loop-value-preserved : goal.loop-value-preserved
loop-value-preserved c =
    let text = c.args.text.now in
    let from = c.args.from in
    let was = c.loop-value.end in
    let i = c.loop-value.invariant in
    let behind = c.in-Some.behind in
    let k = rw c.in-Some.is at c.in_ok-behind.ensures in
    record {
      boundary = k.boundary;
      onward = omega (arith, i.onward, k.onward);
      reads = Reads-same c.args.table.now c.args.quoting (piece-split text from was behind c.utf8.text c.requires i.boundary i.onward (omega (arith, k.onward))) k.reads.1
          (Reads-append c.args.table.now c.args.quoting (piece text from was) c.loop-value.value (piece text was behind) k.reads.0 i.reads k.reads.2);
    }
