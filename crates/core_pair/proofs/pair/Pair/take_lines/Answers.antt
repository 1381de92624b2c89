use Rattle.core_pair.proofs.Holding.{kept-taken}
use Rattle.core_pair.proofs.pair.Pair.take_lines.Goals as goal

pub invariant_of-self : goal.invariant_of-self
invariant_of-self g c = kept-taken c.take_lines.result g.E.InForce.entities c.self.inside.both c.take_lines.new.self c.self.inside.before.value c.self.inside.spent c.if-self.false c.self.invariant c.take_lines.ensures.taken c.take_lines.ensures.err
