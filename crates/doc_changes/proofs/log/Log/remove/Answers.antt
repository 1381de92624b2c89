use Rattle.doc_changes.specs.declared.change.Change.TheVariants.{Removed}
use Rattle.doc_changes.proofs.Logs.{one_logged}
use Rattle.doc_changes.proofs.log.Log.remove.Goals as goal

pub returns-clause-logged : goal.returns-clause-logged
returns-clause-logged c = one_logged c.add.result c.args.self.now c.add.new.self c.args.doc.now c.remove.new.self (Removed c.args.node) c.add.ensures c.remove.ensures
