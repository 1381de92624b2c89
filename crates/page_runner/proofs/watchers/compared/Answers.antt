use Rattle.std.proofs.Common.{rules, ◌≡◌, true}
use Rattle.tree_watch.specs.Boards.{HasCompared}
use Rattle.tree_watch.specs.Rule.{latest}
use Rattle.tree_watch.specs.Seeing.{IsSeen}
use Rattle.page_runner.proofs.WatchingLemmas.{compared_last}
use Rattle.page_runner.proofs.watchers.compared.Goals as goal

pub returns-clause-seen : goal.returns-clause-seen
returns-clause-seen c =
    let w = c.learn.new.self in
    let compared : HasCompared w = search rules in
    let told : w.told ≡ c.args.board.now.published = search rules in
    let seen : IsSeen c.args.seen (latest w.seen) = search rules in
    let last : c.args.seen.last ≡ true = search rules in
    λ marked. compared_last w c.args.board.now.published c.args.seen compared told seen last marked
