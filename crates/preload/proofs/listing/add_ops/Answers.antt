use Rattle.std.proofs.Common.{List, sym, ap, ◌∙◌, arith}
use Rattle.std.specs.Prelude.{flat_map}
use Rattle.std.proofs.lemmas.List.{take_all}
use Rattle.html_types.specs.declared.operation.Op.{Op}
use Rattle.text_store.specs.Records.{seen_op}
use Rattle.preload.specs.Names.{wanted_in, firsts}
use Rattle.preload.proofs.Naming.{ops_more, wanted_spelled}
use Rattle.preload.proofs.listing.add_ops.Goals as goal

pub loop-index-preserved : goal.loop-index-preserved
loop-index-preserved c =
    ops_more c.read-list.result c.loop-index.index (seen_op c.at.result) c.args.names.now.items c.loop-index.names.items c.add_op.new.names.items c.at.ensures c.loop-index.invariant c.in_ok-add_op.ensures

pub returns : goal.returns
returns c =
    let all = c.read-list.result in
    let wanted = λ (os : List Op). firsts c.args.names.now.items (flat_map wanted_in os) in
    c.loop-index.invariant
    ∙ (ap wanted (take_all c.loop-index.index all (omega (arith, c.len-count.ensures)))
    ∙ (ap (firsts c.args.names.now.items) (sym (wanted_spelled all)) ∙ ap wanted c.read-list.ensures))
