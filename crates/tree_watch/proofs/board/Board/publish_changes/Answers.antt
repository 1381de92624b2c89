use Rattle.std.proofs.Common.{rules, ◌≡◌, false, [], drop, fold}
use Rattle.tree_watch.specs.Notes.{noted}
use Rattle.tree_watch.proofs.Boards.{unmarked-then, none-left}
use Rattle.tree_watch.proofs.board.Board.publish_changes.Goals as goal

pub invariant_of-result : goal.invariant_of-result
invariant_of-result g c =
    let head = c.publish-head.result.0 in
    let was = c.self.inside.head in
    let going : c.self.inside.over ≡ false = search rules in
    let shown : head.desk.shown.value ≡ fold noted was.desk.shown.value (drop was.behind was.log.items) = search rules in
    let pending : drop head.behind head.log.items ≡ [] = search rules in record {
      alone = c.publish-head.ensures.leads;
      stands = c.publish-head.ensures.stands;
      opened = c.publish-head.ensures.opened;
      unmarked = λ _. unmarked-then was.desk.shown.value _ (drop was.behind was.log.items) (c.self.invariant.changes going) shown (c.self.invariant.unmarked going);
      changes = λ _. none-left _ pending;
    }
