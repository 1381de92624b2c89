use Rattle.parse_machine.proofs.Runs.{none_taken, run_taken}
use Rattle.parse_machine.proofs.machine.Machine.take_run.Goals as goal

pub returns-then-is_empty-clause-parsed : goal.returns-then-is_empty-clause-parsed
returns-then-is_empty-clause-parsed c = none_taken c.args.text.now c.args.from c.args.self.now c.args.ops.now

pub returns-clause-parsed : goal.returns-clause-parsed
returns-clause-parsed c =
    run_taken c.args.text.now c.plain_run-run.result.now c.args.from c.args.self.now c.insert_run.new.self c.args.ops.now c.insert_run.new.ops
    (c.takes_runs.ensures c.if-not-takes_runs.false) c.plain_run-run.ensures.plain c.plain_run-run.ensures.front c.in_ok-insert_run.ensures.inserted c.in_ok-insert_run.ensures.done
