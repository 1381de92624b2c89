use Rattle.std.proofs.Common.{Some, None}
use Rattle.standard.specs.Tree.{put_of, put_before_of}
use Rattle.act_laws.proofs.Elements.{Alike-put_at}
use Rattle.op_exec.proofs.Docs.{IsDoc-done}
use Rattle.op_exec.proofs.doc.Doc.put.Goals as goal

pub invariant_of-self : goal.invariant_of-self
invariant_of-self c =
    IsDoc-done c.put_last.result c.self.inside.tree c.put_last.new.self (put_of c.self.inside.tree c.node-node.result c.spot-spot.result.parent None) c.self.inside.bound c.self.invariant
    c.put_last.ensures.keeps c.put_last.ensures.ok c.put_last.ensures.err (Alike-put_at c.self.inside.tree c.node-node.result (record { parent = c.spot-spot.result.parent; before = None }))

pub invariant_of-self-in_ok-put_before-in-Some : goal.invariant_of-self-in_ok-put_before-in-Some
invariant_of-self-in_ok-put_before-in-Some c =
    IsDoc-done c.put_before.result c.self.inside.tree c.put_before.new.self (put_before_of c.self.inside.tree c.node-node.result c.in-Some.before) c.self.inside.bound c.self.invariant
    c.put_before.ensures.keeps c.put_before.ensures.ok c.put_before.ensures.err
    (Alike-put_at c.self.inside.tree c.node-node.result (record { parent = c.spot-spot.result.parent; before = Some c.in-Some.before }))
