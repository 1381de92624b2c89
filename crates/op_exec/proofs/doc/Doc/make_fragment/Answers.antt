use Rattle.act_laws.proofs.Staying.{same}
use Rattle.op_exec.proofs.Filling.{Stays-part, Stays-all, fragment-fits, fragment-done, fragment-root}
use Rattle.op_exec.proofs.doc.Doc.make_fragment.Goals as goal

pub returns-in_err-all-clause-stays : goal.returns-in_err-all-clause-stays
returns-in_err-all-clause-stays c = same c.args.self.now.tree

pub apply_all-requires : goal.apply_all-requires
apply_all-requires c = fragment-fits c.args.self.now c.args.form c.args.ops.now c.in_ok-all.all c.in_ok-all.ensures c.requires.none c.requires.bound

pub returns-in_err-apply_all-clause-stays : goal.returns-in_err-apply_all-clause-stays
returns-in_err-apply_all-clause-stays c = Stays-part c.args.self.now c.apply_all.new.self c.in_ok-all.all c.in_err-apply_all.ensures.err

pub returns-clause-ok : goal.returns-clause-ok
returns-clause-ok c = fragment-done c.args.self.now c.args.form c.args.ops.now c.in_ok-all.all c.in_ok-all.ensures c.apply_all.new.self c.requires.none c.in_ok-apply_all.ensures.ok

pub returns-clause-root : goal.returns-clause-root
returns-clause-root c = fragment-root c.args.self.now c.args.form c.args.ops.now c.in_ok-all.all c.in_ok-all.ensures c.apply_all.new.self c.in_ok-apply_all.ensures.ok

pub returns-clause-stays : goal.returns-clause-stays
returns-clause-stays c = Stays-all c.args.self.now c.apply_all.new.self c.in_ok-all.all c.in_ok-apply_all.ensures.ok
