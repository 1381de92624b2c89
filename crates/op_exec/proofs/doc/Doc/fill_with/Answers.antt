use Rattle.std.proofs.Common.{◌≤◌, length, arith}
use Rattle.act_laws.proofs.Staying.{chain}
use Rattle.op_exec.proofs.Filling.{filled-done}
use Rattle.op_exec.proofs.doc.Doc.fill_with.Goals as goal

pub exchange-requires-clause-here : goal.exchange-requires-clause-here
exchange-requires-clause-here c =
    let more : length c.args.self.now.tree ≤ length c.make_fragment.new.self.tree = c.make_fragment.ensures.stays.nodes in
    omega (arith, more, c.requires.here)

pub returns-clause-ok : goal.returns-clause-ok
returns-clause-ok c =
    filled-done c.exchange.result c.args.self.now c.make_fragment.new.self c.exchange.new.self c.args.target c.args.form c.args.ops.now c.in_ok-make_fragment.ensures.ok c.exchange.ensures.ok

pub returns-clause-stays : goal.returns-clause-stays
returns-clause-stays c =
    chain c.args.self.now.tree c.make_fragment.new.self.tree c.exchange.new.self.tree c.make_fragment.ensures.stays c.exchange.ensures.stays
