use Rattle.doc_changes.specs.declared.change.Change.TheVariants.{Did}
use Rattle.doc_changes.proofs.Logs.{one_logged}
use Rattle.doc_changes.proofs.log.Log.apply_all.Goals as goal

pub returns-clause-logged : goal.returns-clause-logged
returns-clause-logged c =
    one_logged c.add.result c.args.self.now c.add.new.self c.args.doc.now c.apply_all.new.self (Did c.args.ops) c.add.ensures c.in_ok-apply_all.ensures.ok
