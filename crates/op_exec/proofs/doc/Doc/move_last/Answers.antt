use Rattle.std.proofs.Common.{None}
use Rattle.standard.specs.Tree.{put_of}
use Rattle.act_laws.proofs.Elements.{Alike-put_at}
use Rattle.op_exec.proofs.Docs.{IsDoc-done}
use Rattle.op_exec.proofs.doc.Doc.move_last.Goals as goal

pub invariant_of-self : goal.invariant_of-self
invariant_of-self c =
    IsDoc-done c.put_last.result c.self.inside.tree c.put_last.new.self (put_of c.self.inside.tree c.args.second c.args.first None) c.self.inside.bound c.self.invariant
    c.put_last.ensures.keeps c.put_last.ensures.ok c.put_last.ensures.err (Alike-put_at c.self.inside.tree c.args.second (record { parent = c.args.first; before = None }))
