use Rattle.tree_watch.proofs.Rules.{admits}
use Rattle.tree_watch.proofs.board.watcher_of.Goals as goal

pub reader-requires : goal.reader-requires
reader-requires c = admits
