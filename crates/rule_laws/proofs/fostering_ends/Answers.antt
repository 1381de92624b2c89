use Rattle.rule_laws.proofs.Framing.{fostering-ends}
use Rattle.rule_laws.proofs.fostering_ends.Goals as goal

pub returns : goal.returns
returns c = fostering-ends
