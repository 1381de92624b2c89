use Rattle.std.proofs.Common.{arith}
use Rattle.text_store.proofs.lists.Store.run_from.Goals as goal

pub returns-clause-all : goal.returns-clause-all
returns-clause-all c = omega (arith, c.requires, c.in_ok-from.ensures, c.in_ok-size.ensures, c.len.ensures, c.args.self.now.marks.ok.0)
