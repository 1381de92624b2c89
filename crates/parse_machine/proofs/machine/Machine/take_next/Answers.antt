use Rattle.parse_machine.proofs.References.{ahead-takes_any}
use Rattle.parse_machine.proofs.machine.Machine.take_next.Goals as goal

pub returns-clause-parsed : goal.returns-clause-parsed
returns-clause-parsed c =
    ahead-takes_any c.args.table.now c.args.text.now c.args.from c.in_ok-start.start c.take_one.result c.args.self.now c.take_references.new.self _ c.args.ops.now c.take_references.new.ops _ c.utf8.text c.in_ok-start.ensures.boundary c.take_one.ensures.boundary
    c.in_ok-start.ensures.ahead.inserts c.take_one.ensures.parsed
