use Rattle.std.proofs.Common.{◌∙◌, ap, subst}
use Rattle.std.specs.Prelude.{IfOk}
use Rattle.tree_watch.specs.Boards.{WatcherView}
use Rattle.tree_watch.specs.Rule.{latest}
use Rattle.tree_watch.specs.Seeing.{IsSeen}
use Rattle.page_runner.proofs.watchers.look_here.Goals as goal

pub compared-requires-clause-table : goal.compared-requires-clause-table
compared-requires-clause-table c = ap (λ (w : WatcherView). w.table) c.text-watcher.ensures.others ∙ c.requires

pub compared-requires-clause-seen : goal.compared-requires-clause-seen
compared-requires-clause-seen c = subst (λ r. IfOk r (λ s. IsSeen s (latest c.text-watcher.result.0.seen))) c.in-Ok.is c.text-watcher.ensures.is
