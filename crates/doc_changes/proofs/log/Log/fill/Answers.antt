use Rattle.doc_changes.specs.declared.change.Change.TheVariants.{Filled}
use Rattle.doc_changes.proofs.Logs.{one_logged}
use Rattle.doc_changes.proofs.log.Log.fill.Goals as goal

pub returns-clause-logged : goal.returns-clause-logged
returns-clause-logged c =
    one_logged c.add.result c.args.self.now c.add.new.self c.args.doc.now c.fill.new.doc (Filled c.args.target c.args.fragment) c.add.ensures c.in_ok-fill.ensures
