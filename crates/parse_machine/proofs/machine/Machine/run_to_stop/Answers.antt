use Rattle.std.proofs.Common.{◌∙◌}
use Rattle.parse_machine.proofs.Fronts.{less-left}
use Rattle.parse_machine.proofs.Through.{through-run}
use Rattle.parse_machine.proofs.machine.Machine.run_to_stop.Goals as goal

pub returns-clause-onward : goal.returns-clause-onward
returns-clause-onward c = λ stops.
    less-left c.args.table.now c.args.self.now c.in_ok-ran.ran.used c.args.text.now c.in_ok-ran.ensures.parsed.used (λ is. stops (c.in_ok-ran.ensures.parsed.stop ∙ is))

pub returns-clause-through : goal.returns-clause-through
returns-clause-through c =
    through-run c.args.table.now c.args.self.now c.run.new.self c.args.ops.now c.run.new.ops c.in_ok-ran.ran c.args.text.now c.utf8.text c.in_ok-ran.ensures.boundary c.in_ok-ran.ensures.parsed
