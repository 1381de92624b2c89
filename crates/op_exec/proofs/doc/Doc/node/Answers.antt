use Rattle.op_exec.proofs.Docs.{IsPlain-read}
use Rattle.op_exec.proofs.doc.Doc.node.Goals as goal

pub returns-clause-here : goal.returns-clause-here
returns-clause-here c = (IsPlain-read c.args.self.now c.self.inside.tree c.self.inside.bound c.args.id c.get.result c.self.view_is c.get.ensures c.self.invariant c.requires).0

pub returns-clause-not_document : goal.returns-clause-not_document
returns-clause-not_document c = (IsPlain-read c.args.self.now c.self.inside.tree c.self.inside.bound c.args.id c.get.result c.self.view_is c.get.ensures c.self.invariant c.requires).1

pub returns-clause-no_contents : goal.returns-clause-no_contents
returns-clause-no_contents c = (IsPlain-read c.args.self.now c.self.inside.tree c.self.inside.bound c.args.id c.get.result c.self.view_is c.get.ensures c.self.invariant c.requires).2
