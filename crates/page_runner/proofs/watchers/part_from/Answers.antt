use Rattle.std.proofs.Common.{subst, IfSome}
use Rattle.tree_watch.specs.Rule.{latest}
use Rattle.tree_watch.specs.Seeing.{IsSeen}
use Rattle.page_runner.specs.Partings.{Parted}
use Rattle.page_runner.proofs.watchers.part_from.Goals as goal

pub compared-requires-clause-table : goal.compared-requires-clause-table
compared-requires-clause-table c = (subst (Parted c.args.board.now.table) c.in-Done.is c.requires).same

pub compared-requires-clause-seen : goal.compared-requires-clause-seen
compared-requires-clause-seen c = subst (λ o. IfSome o (λ s. IsSeen s (latest c.in-Done.watcher.seen))) c.in-Some.is (subst (Parted c.args.board.now.table) c.in-Done.is c.requires).seen

pub look_here-requires : goal.look_here-requires
look_here-requires c = (subst (Parted c.args.board.now.table) c.in-Unused.is c.requires).same
