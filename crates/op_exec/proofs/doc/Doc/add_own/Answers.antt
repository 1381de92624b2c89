use Rattle.standard.specs.Tree.{attributes_added}
use Rattle.act_laws.proofs.Elements.{Alike-attributes_added}
use Rattle.op_exec.proofs.Docs.{IsDoc-done}
use Rattle.op_exec.proofs.doc.Doc.add_own.Goals as goal

pub invariant_of-self : goal.invariant_of-self
invariant_of-self c =
    IsDoc-done c.add_attributes.result c.self.inside.tree c.add_attributes.new.self (attributes_added c.self.inside.tree c.node-node.result c.args.attributes.now) c.self.inside.bound
    c.self.invariant c.add_attributes.ensures.keeps c.add_attributes.ensures.ok c.add_attributes.ensures.err (Alike-attributes_added c.self.inside.tree c.node-node.result c.args.attributes.now)
