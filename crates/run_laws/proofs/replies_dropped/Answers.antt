use Rattle.run_laws.proofs.Dropping.{drops-are_over}
use Rattle.run_laws.proofs.replies_dropped.Goals as goal

pub returns : goal.returns
returns c = drops-are_over
