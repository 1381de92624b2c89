use Rattle.text_store.specs.Views.{seen_name}
use Rattle.op_exec.proofs.Docs.{IsDoc-made}
use Rattle.op_exec.proofs.doc.Doc.make.Goals as goal

pub invariant_of-self : goal.invariant_of-self
invariant_of-self c =
    IsDoc-made c.make.result c.self.inside.tree c.make.new.tree c.self.inside.bound c.make.new.self c.args.id (seen_name c.args.name) c.args.attributes.now c.self.invariant
    c.make.ensures.bound c.make.ensures.made c.make.ensures.err_bound c.make.ensures.err_made c.make.ensures.keeps
