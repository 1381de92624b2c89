use Rattle.std.proofs.Common.{drop}
use Rattle.tree_watch.proofs.Rules.{opens, after_opening, more-changes}
use Rattle.tree_watch.proofs.steps.open.Goals as goal

pub publish_as-requires : goal.publish_as-requires
publish_as-requires g c next is =
    let x = c.args.head.desk.shown.value in
    let notes = drop c.args.head.behind c.args.head.log.items in
    opens _ _ x next c.requires.shown (after_opening x next notes c.requires.pending is) (more-changes x next notes is)
