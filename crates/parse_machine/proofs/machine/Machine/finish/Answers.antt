use Rattle.std.proofs.Common.{ap}
use Rattle.html_types.specs.declared.ending.Why.TheVariants as why
use Rattle.core_definitions.specs.Batches.{end_batch}
use Rattle.parse_machine.proofs.MachineLemmas.{ends-well, ends-refused}
use Rattle.parse_machine.proofs.machine.Machine.finish.Goals as goal

pub returns-in_ok-finish-in-End : goal.returns-in_ok-finish-in-End
returns-in_ok-finish-in-End c =
    ends-well c.args.table.now c.args.self.now c.end_input.new.self c.args.ops.now c.end_input.new.ops c.args.ending c.in_ok-finish-in-End.finish c.page_end.result c.in-End.is
    c.in_ok-finish-in-End.ensures c.page_end.ensures

pub returns-in-Bad : goal.returns-in-Bad
returns-in-Bad c =
    ends-refused c.args.self.now c.args.ops.now why.BadUtf8 (end_batch c.args.table.now c.args.self.now c.args.ending) (ap (end_batch c.args.table.now c.args.self.now) c.in-Bad.is)

pub returns-in-Long : goal.returns-in-Long
returns-in-Long c =
    ends-refused c.args.self.now c.args.ops.now why.Page (end_batch c.args.table.now c.args.self.now c.args.ending) (ap (end_batch c.args.table.now c.args.self.now) c.in-Long.is)

pub returns-in-Fault : goal.returns-in-Fault
returns-in-Fault c =
    ends-refused c.args.self.now c.args.ops.now why.Fault (end_batch c.args.table.now c.args.self.now c.args.ending) (ap (end_batch c.args.table.now c.args.self.now) c.in-Fault.is)
