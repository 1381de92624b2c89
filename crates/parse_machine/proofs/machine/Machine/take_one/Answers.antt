use Rattle.parse_machine.proofs.Tags.{taken_character}
use Rattle.parse_machine.proofs.machine.Machine.take_one.Goals as goal

pub returns-in_ok-stop-in-None-clause-parsed : goal.returns-in_ok-stop-in-None-clause-parsed
returns-in_ok-stop-in-None-clause-parsed c =
    taken_character c.args.table.now c.args.text.now c.args.from c.in-Some.behind c.in-Some.c c.in_ok-stop-in-None.stop
    c.args.self.now c.take_tag.new.self c.take.new.self c.args.ops.now c.take_tag.new.ops c.take.new.ops
    c.in-Some.ensures.read (c.in_ok-ran.ensures.none c.in-None.is) (c.in_ok-ran.ensures.none_added c.in-None.is) c.in_ok-stop-in-None.ensures
