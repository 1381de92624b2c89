use Rattle.std.proofs.Common.{◌≡◌, List, length, refl, ap, ◌∙◌, arith}
use Rattle.std.proofs.lemmas.List.{take_all}
use Rattle.html_types.specs.Operations.{spelled}
use Rattle.html_types.specs.declared.operation.Op.{Op}
use Rattle.text_store.specs.Records.{seen_op}
use Rattle.doc_changes.proofs.Repeats.{one-counted}
use Rattle.doc_changes.proofs.change.sum_of.Goals as goal

pub loop-index-init : goal.loop-index-init
unfolding spelled
loop-index-init c = record { counted = refl }

pub loop-index-preserved : goal.loop-index-preserved
loop-index-preserved c = record {
  counted = one-counted c.loop-index.sum c.weight_of.result c.in_ok-sum.sum c.read-list.result c.loop-index.index (seen_op c.at.result) c.loop-index.invariant.counted c.at.ensures c.weight_of.ensures c.in_ok-sum.ensures;
}

pub returns : goal.returns
returns c =
    let all = c.read-list.result in
    let whole = take_all c.loop-index.index all (omega (arith, c.len-count.ensures)) in
    c.loop-index.invariant.counted ∙ (ap (λ (os : List Op). length (spelled os)) whole ∙ ap length c.read-list.ensures)
