use Rattle.std.proofs.Common.{◌∙◌, refl}
use Rattle.speculation.proofs.Cuts.{is-last}
use Rattle.speculation.proofs.cutting.last_batch.Goals as goal
use Rattle.core_definitions.specs.Batches.{over_with}
use Rattle.parse_machine.specs.Ends.{result_of}

pub returns : goal.returns
returns c =
    is-last c.args.table.now c.args.machine.now c.args.ending c.of-start.result.value c.in_ok-text.text c.new-ops.result c.finish.new.ops c.in_ok-after.after c.finish.new.self c.in_ok-end.end
    (over_with (result_of c.in_ok-end.end)) c.of-start.ensures c.in_ok-text.ensures c.new-ops.ensures (c.in_ok-after.ensures ∙ c.share.ensures) refl c.in_ok-end.ensures
