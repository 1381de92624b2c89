use Rattle.standard_laws.proofs.Fuel.{one_outcome}
use Rattle.standard_laws.proofs.Total.{has_outcome}
use Rattle.standard_laws.proofs.has_one_outcome.Goals as goal

pub returns : goal.returns
returns c = λ page w. (has_outcome page w, one_outcome page w)
