use Rattle.std.proofs.Common.{◌∙◌}
use Rattle.speculation.proofs.Cuts.{HasRun, has-run, is-first}
use Rattle.speculation.proofs.cutting.next_batch.Goals as goal

pub split_front-requires : goal.split_front-requires
split_front-requires c =
    (has-run c.args.table.now c.args.machine.now c.as_str.result.now c.args.text.now c.run.new.self c.in_ok-ops.ops c.run.new.ops c.in_ok-ran.ran c.as_str.utf8 c.as_str.ensures
    c.in_ok-ops.ensures c.in_ok-ran.ensures.parsed c.in_ok-ran.ensures.boundary).boundary

pub returns-clause-batch : goal.returns-clause-batch
returns-clause-batch c =
    let h : HasRun c.args.table.now c.args.machine.now c.args.text.now c.run.new.self c.run.new.ops c.in_ok-ran.ran =
    has-run c.args.table.now c.args.machine.now c.as_str.result.now c.args.text.now c.run.new.self c.in_ok-ops.ops c.run.new.ops c.in_ok-ran.ran c.as_str.utf8 c.as_str.ensures
    c.in_ok-ops.ensures c.in_ok-ran.ensures.parsed c.in_ok-ran.ensures.boundary in
    is-first c.args.table.now c.args.machine.now c.args.text.now c.of-start.result.value c.in_ok-used.used c.run.new.ops c.in_ok-after.after c.in_ok-ran.ran.stop
    c.of-start.ensures (c.in_ok-used.ensures.front ∙ h.front) h.operations (c.in_ok-after.ensures ∙ (c.share.ensures ∙ h.state)) h.stop

pub returns-clause-rest : goal.returns-clause-rest
returns-clause-rest c =
    c.in_ok-used.ensures.rest
    ∙ (has-run c.args.table.now c.args.machine.now c.as_str.result.now c.args.text.now c.run.new.self c.in_ok-ops.ops c.run.new.ops c.in_ok-ran.ran c.as_str.utf8 c.as_str.ensures
    c.in_ok-ops.ensures c.in_ok-ran.ensures.parsed c.in_ok-ran.ensures.boundary).rest
