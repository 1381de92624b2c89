use Rattle.std.specs.Prelude.{◌≤◌, length, All}
use Rattle.tree_watch.specs.Boards.{IsNew}
use Rattle.tree_watch.proofs.board.watchers_of.Given as goal

-- those that were made are new ones of this board, at most one for each turn
abbrev pub invariant-places : goal.invariant-places
invariant-places l = record {
  new : All (IsNew l.head.desk.place.table_id) l.watchers.items;
  few : length l.watchers.items ≤ l.counter;
  turns : l.counter ≤ l.most;
}
