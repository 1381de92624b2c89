use Rattle.std.proofs.Common.{subst}
use Rattle.standard.specs.Act.{Doc}
use Rattle.act_laws.specs.Bindings.{IsOneToOne}
use Rattle.op_exec.proofs.doc.Doc.ids_are_one_to_one.Goals as goal

pub returns : goal.returns
returns c = subst (λ (d : Doc). IsOneToOne d.bound) c.self.view_is c.self.invariant.one_to_one
