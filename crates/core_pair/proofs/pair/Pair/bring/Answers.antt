use Rattle.core_pair.proofs.Holding.{on-ok, kept-brought}
use Rattle.core_pair.proofs.Interleaved.{always-stands_for}
use Rattle.core_pair.proofs.pair.Pair.bring.Goals as goal

pub invariant_of-self : goal.invariant_of-self
invariant_of-self g c = kept-brought c.bring.result g.E.InForce.entities c.self.inside.both c.bring.new.self c.self.inside.before.value c.args.self.now c.self.inside.spent _ _ c.if-self.false c.self.view_is c.requires c.self.invariant c.bring.ensures.ok c.bring.ensures.err

pub returns-clause-stands_for : goal.returns-clause-stands_for
returns-clause-stands_for g c =
    let kept = kept-brought c.bring.result g.E.InForce.entities c.self.inside.both c.bring.new.self c.self.inside.before.value c.args.self.now c.self.inside.spent _ _ c.if-self.false c.self.view_is c.requires c.self.invariant c.bring.ensures.ok c.bring.ensures.err in
    on-ok c.bring.result _ (always-stands_for kept.run)
