use Rattle.std.proofs.Common.{arith}
use Rattle.parse_machine.proofs.References.{none_ahead, inserts-both}
use Rattle.parse_machine.proofs.machine.Machine.take_references.Goals as goal

pub loop-behind-init : goal.loop-behind-init
loop-behind-init c = record {
  boundary = c.requires;
  onward = omega arith;
  ahead = none_ahead c.args.table.now c.args.text.now c.args.from c.args.self.now c.args.ops.now;
}

pub loop-behind-preserved : goal.loop-behind-preserved
loop-behind-preserved c =
    let i = c.loop-behind.invariant in
    let t = rw c.in-Some.is at c.in_ok-behind.ensures in
    record {
      boundary = t.boundary;
      onward = omega (arith, i.onward, t.onward);
      ahead = record {
        inserts = inserts-both c.args.table.now c.args.text.now c.args.from c.loop-behind.end c.in-Some.behind c.args.self.now c.loop-behind.self c.take_reference.new.self c.args.ops.now c.loop-behind.ops c.take_reference.new.ops c.utf8.text i.boundary t.boundary i.ahead.inserts t.parsed;
        at_end = λ e. absurd (omega (arith, e, t.within));
        same = λ e. absurd (omega (arith, e, t.within));
        none_added = λ e. absurd (omega (arith, e, t.within));
      };
    }
