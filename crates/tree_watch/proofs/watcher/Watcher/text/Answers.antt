use Rattle.tree_watch.proofs.Rules.{reads}
use Rattle.tree_watch.proofs.watcher.Watcher.text.Goals as goal

pub enter_as-requires : goal.enter_as-requires
enter_as-requires c x = reads _ _ x
