use Rattle.std.proofs.Common.{◌≡◌, ℕ, List, ap, ◌∙◌, arith}
use Rattle.std.specs.Str.{chars}
use Rattle.tokenizer.specs.Whole.{begins_with, piece}
use Rattle.tokenizer.specs.declared.part.Part.TheVariants as part
use Rattle.tokenizer.proofs.WholeLemmas.{piece-split, begins_with-append, named-gives, Gives-same}
use Rattle.tokenizer.proofs.whole.attribute_at.Goals as goal

pub returns-clause-begins : goal.returns-clause-begins
returns-clause-begins c =
    let text = c.args.text.now in
    let n = c.in-Some.ensures in
    let held = rw c.in-Some-2.is at c.in_ok-held.ensures in
    ap (begins_with part.AttributeName)
    (piece-split text c.args.from c.in-Some.end c.in-Some-2.held.gap.at c.utf8.text c.requires n.boundary (omega (arith, n.onward)) held.onward)
    ∙ begins_with-append part.AttributeName (piece text c.args.from c.in-Some.end) (piece text c.in-Some.end c.in-Some-2.held.gap.at) n.begins

pub returns-clause-gives : goal.returns-clause-gives
returns-clause-gives c =
    let text = c.args.text.now in
    let from = c.args.from in
    let end = c.in-Some.end in
    let v = c.in-Some-2.held in
    let n = c.in-Some.ensures in
    let held = rw c.in-Some-2.is at c.in_ok-held.ensures in
    let name_is : c.in_ok-name.name ≡ piece text from end = c.in_ok-name.ensures ∙ ap chars c.range.ensures.value in
    Gives-same c.args.table.now v.gap.behind
    (piece-split text from end v.gap.at c.utf8.text c.requires n.boundary (omega (arith, n.onward)) held.onward)
    (ap (λ (x : List ℕ). record { name = x; value = v.value }) name_is)
    (named-gives c.args.table.now v.gap.behind (piece text from end) (piece text end v.gap.at) v.value n.begins n.all held.value)
