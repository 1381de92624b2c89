use Rattle.tree_watch.proofs.Rules.{begins}
use Rattle.tree_watch.proofs.steps.first_head.Goals as goal

pub new-requires-3-clause-rule : goal.new-requires-3-clause-rule
new-requires-3-clause-rule c = begins c.in_ok-first.first c.in_ok-first.ensures
