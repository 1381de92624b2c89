use Rattle.std.proofs.Common.{refl}
use Rattle.standard.specs.Adoption.{adopt}
use Rattle.standard.specs.Rules.{adopting}
use Rattle.standard_examples.proofs.OnLiterals.{serial_on_literals}
use Rattle.standard_examples.proofs.fragments.Goals as goal

pub returns : goal.returns
unfolding serial_on_literals adopting adopt
returns c = refl
