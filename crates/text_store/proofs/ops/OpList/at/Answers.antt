use Rattle.std.proofs.Common.{◌≡◌, ◌<◌, List, Some, length, sym, ap, ◌∙◌, subst, arith}
use Rattle.std.specs.Prelude.{slice_get}
use Rattle.std.proofs.lemmas.List.{length-map}
use Rattle.html_types.specs.declared.operation.Op.{Op}
use Rattle.text_store.specs.Records.{op_at, seen_op}
use Rattle.text_store.proofs.RecordLemmas.{record_read, op_read}
use Rattle.text_store.proofs.ops.OpList.at.Goals as goal

pub op-requires : goal.op-requires
op-requires c =
    let s = c.self.inside.store.now in
    let rs = c.self.inside.records.now.items in
    let below : c.args.index < length rs = omega (arith, c.requires, ap length c.self.view_is, length-map rs (op_at s)) in
    record_read s rs c.self.invariant c.args.index c.index.result.now below c.index.ensures

pub returns : goal.returns
returns c =
    let s = c.self.inside.store.now in
    let rs = c.self.inside.records.now.items in
    let below : c.args.index < length rs = omega (arith, c.requires, ap length c.self.view_is, length-map rs (op_at s)) in
    subst (λ (l : List Op). slice_get l c.args.index ≡ Some (seen_op c.op.result)) c.self.view_is
    (op_read s rs c.args.index c.index.result.now below c.index.ensures ∙ ap Some (sym c.op.ensures))
