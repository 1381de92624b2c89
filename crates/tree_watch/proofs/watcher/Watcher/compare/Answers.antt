use Rattle.tree_watch.proofs.Rules.{compares}
use Rattle.tree_watch.proofs.watcher.Watcher.compare.Goals as goal

pub enter_as-requires : goal.enter_as-requires
enter_as-requires c x = compares _ _ x
