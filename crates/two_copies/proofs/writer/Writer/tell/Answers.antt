use Rattle.std.proofs.Common.{sym, subst}
use Rattle.two_copies.specs.Log.{InStep}
use Rattle.two_copies.specs.declared.part.Part.{Part}
use Rattle.two_copies.proofs.writer.Writer.tell.Goals as goal

pub invariant_of-self : goal.invariant_of-self
invariant_of-self g c = let w = c.args.self.now in let state = g.T.Absorb.state in let kept = c.tell.ensures.kept in record {
  in_step = subst (λ (z : Part g.row.T.Denot × Part g.row.T.Denot). ∥ InStep g.T.Absorb.applied (state z.0.value) (state z.1.value) w.log.items w.behind w.ahead ∥₁)
      (λ i. (sym kept.0 i, sym kept.1 i)) w.in_step;
}
