use Rattle.std.proofs.Common.{◌≡◌, ◌≤◌, ◌+◌, ◌++◌, length}
use Rattle.std.specs.Vec.{vec_len, vec_capacity}
use Rattle.std.specs.Vec.Iter.{into_iter_items}
use Rattle.atomic_table.specs.Seated.{TableId}
use Rattle.page_runner.specs.Partings.{AreOfBoard}
use Rattle.page_runner.specs.Watching.{AreAtPosts}
use Rattle.page_runner.proofs.watchers.post_all.Given as goal

-- those that are passed have their posts, and there is room for the others'
abbrev pub invariant-loop-watcher : goal.invariant-loop-watcher
invariant-loop-watcher g l = record {
  items : l.yielded ++ into_iter_items l.watcher-iterator ≡ into_iter_items l.initial.watcher-iterator;
  room : vec_len l.posts + length (into_iter_items l.watcher-iterator) ≤ vec_capacity l.posts;
  posted : (table : TableId) → AreOfBoard table l.yielded → AreAtPosts table l.posts.items;
}
