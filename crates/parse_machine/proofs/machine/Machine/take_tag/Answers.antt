use Rattle.std.proofs.Common.{arith}
use Rattle.parse_machine.proofs.Tags.{taken_tag}
use Rattle.parse_machine.proofs.machine.Machine.take_tag.Goals as goal

pub returns-clause-parsed : goal.returns-clause-parsed
returns-clause-parsed c =
    let w = rw c.in-Some.is at c.in_ok-whole.ensures in
    taken_tag c.args.table.now c.args.text.now c.args.from c.in-Some.whole.end c.in_ok-stop.stop c.in-Some.whole.token c.args.self.now c.take_token.new.self c.args.ops.now c.take_token.new.ops c.utf8.text c.requires (omega (arith, w.onward))
    (c.reads_tags.ensures c.if-not-reads_tags.false) w.alone w.no_cr c.in_ok-stop.ensures
