use Rattle.std.proofs.Common.{sym, subst}
use Rattle.act_laws.proofs.Elements.{Alike, Alike-detached}
use Rattle.op_exec.proofs.Docs.{IsDoc-kept}
use Rattle.op_exec.proofs.doc.Doc.remove.Goals as goal

pub invariant_of-self : goal.invariant_of-self
invariant_of-self c =
    IsDoc-kept c.self.inside.tree c.detach.new.self c.self.inside.bound c.self.invariant c.detach.ensures.keeps
    (subst (Alike c.self.inside.tree) (sym c.detach.ensures.node) (Alike-detached c.self.inside.tree c.args.node))
