use Rattle.standard.specs.Tree.{children_moved}
use Rattle.act_laws.proofs.Elements.{Alike-children_moved}
use Rattle.op_exec.proofs.Docs.{IsDoc-done}
use Rattle.op_exec.proofs.doc.Doc.move_children.Goals as goal

pub invariant_of-self : goal.invariant_of-self
invariant_of-self c =
    IsDoc-done c.move_children.result c.self.inside.tree c.move_children.new.self (children_moved c.self.inside.tree c.node-from.result c.end_of-spot.result.parent) c.self.inside.bound
    c.self.invariant c.move_children.ensures.keeps c.move_children.ensures.ok c.move_children.ensures.err (Alike-children_moved c.self.inside.tree c.node-from.result c.end_of-spot.result.parent)
