use Rattle.std.proofs.Common.{ap, ◌∙◌}
use Rattle.std.specs.Prelude.{flat_map}
use Rattle.preload.specs.Names.{wanted_in, firsts}
use Rattle.preload.proofs.Naming.{batch_more}
use Rattle.preload.proofs.listing.names.Goals as goal

pub loop-k-preserved : goal.loop-k-preserved
loop-k-preserved g c =
    batch_more c.batches-batches.result.now c.loop-k.k c.at.result.now c.loop-k.names.items c.add_ops.new.names.items c.at.ensures c.loop-k.invariant
    (c.in_ok-add_ops.ensures ∙ ap (λ os. firsts c.loop-k.names.items (flat_map wanted_in os)) c.ops.ensures)
