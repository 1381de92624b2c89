use Rattle.std.proofs.Common.{◌≡◌, List, refl, ap, ◌∙◌, arith}
use Rattle.std.proofs.lemmas.List.{take_all}
use Rattle.html_types.specs.Operations.{spelled}
use Rattle.html_types.specs.declared.operation.Op.{Op}
use Rattle.standard.specs.Act.{acts}
use Rattle.text_store.specs.Records.{seen_op}
use Rattle.doc_changes.proofs.Repeats.{one-done}
use Rattle.doc_changes.proofs.change.apply_all.Goals as goal

pub loop-index-init : goal.loop-index-init
unfolding acts spelled
loop-index-init c = record { done = refl }

pub loop-index-preserved : goal.loop-index-preserved
loop-index-preserved c = record {
  done = one-done c.args.doc.now c.loop-index.doc c.apply.new.doc c.read-list.result c.loop-index.index (seen_op c.at.result) c.loop-index.invariant.done c.at.ensures c.in_ok-apply.ensures;
}

pub returns : goal.returns
returns c =
    let all = c.read-list.result in
    let whole = take_all c.loop-index.index all (omega (arith, c.len-count.ensures)) in
    c.loop-index.invariant.done ∙ (ap (λ (os : List Op). acts c.args.doc.now (spelled os)) whole ∙ ap (acts c.args.doc.now) c.read-list.ensures)
