use Rattle.std.proofs.Common.{drop}
use Rattle.tree_watch.proofs.Rules.{publishes, opened-up, opened-on, more-changes}
use Rattle.tree_watch.proofs.steps.publish.Goals as goal

pub publish_as-requires : goal.publish_as-requires
publish_as-requires g c next is =
    let x = c.args.head.desk.shown.value in
    let notes = drop c.args.head.behind c.args.head.log.items in
    publishes _ _ x next c.requires.leads (opened-up x next notes c.requires.opened is) c.requires.unmarked (more-changes x next notes is)

pub returns-clause-opened : goal.returns-clause-opened
returns-clause-opened g c =
    opened-on c.publish_as.result.1 c.args.head.desk.shown.value c.publish_as.result.0.desk.shown.value
    (drop c.args.head.behind c.args.head.log.items) _ _ c.requires.opened c.publish_as.ensures.values
