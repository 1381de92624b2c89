use Rattle.std.proofs.Common.{rules}
use Rattle.tree_watch.proofs.Rules.{merges}
use Rattle.tree_watch.proofs.watcher.Watcher.learn.Goals as goal

pub learn-requires : goal.learn-requires
learn-requires c = record { own = search rules; rule = merges _ _ _ _ }
