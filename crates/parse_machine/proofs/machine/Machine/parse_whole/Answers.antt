use Rattle.std.proofs.Common.{sym, ap, ◌∙◌}
use Rattle.std.specs.Str.{chars}
use Rattle.standard.specs.Through.{if_finished}
use Rattle.parse_machine.specs.Through.{came_to}
use Rattle.parse_machine.proofs.Through.{whole-ended, whole-deep}
use Rattle.parse_machine.proofs.machine.Machine.parse_whole.Goals as goal

pub returns-then-not-goes_on : goal.returns-then-not-goes_on
returns-then-not-goes_on c =
    sym (whole-deep c.args.table.now c.args.self.now c.read_through.new.self (chars c.args.text.now) c.new-ops.result c.read_through.new.ops c.new-ops.ensures
    (c.in_ok-goes_on.ensures ∙ ap (came_to c.read_through.new.self c.read_through.new.ops) c.if-not-goes_on.true))

pub returns-in-Finished : goal.returns-in-Finished
returns-in-Finished c =
    sym (whole-ended c.args.table.now c.args.self.now c.read_through.new.self c.end_input.new.self (chars c.args.text.now) c.new-ops.result c.read_through.new.ops c.end_input.new.ops c.in_ok-finish.finish c.new-ops.ensures
    (c.in_ok-goes_on.ensures ∙ ap (came_to c.read_through.new.self c.read_through.new.ops) c.if-not-goes_on.false) c.in_ok-finish.ensures
    ∙ ap (if_finished c.end_input.new.ops) c.in-Finished.is)

pub returns-in-Deep : goal.returns-in-Deep
returns-in-Deep c =
    sym (whole-ended c.args.table.now c.args.self.now c.read_through.new.self c.end_input.new.self (chars c.args.text.now) c.new-ops.result c.read_through.new.ops c.end_input.new.ops c.in_ok-finish.finish c.new-ops.ensures
    (c.in_ok-goes_on.ensures ∙ ap (came_to c.read_through.new.self c.read_through.new.ops) c.if-not-goes_on.false) c.in_ok-finish.ensures
    ∙ ap (if_finished c.end_input.new.ops) c.in-Deep.is)
