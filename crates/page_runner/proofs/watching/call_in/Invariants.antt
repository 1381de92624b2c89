use Rattle.std.proofs.Common.{◌≡◌}
use Rattle.std.specs.List.{All}
use Rattle.std.specs.Vec.Iter.{into_iter_items}
use Rattle.tree_watch.specs.Seeing.{IsSeen}
use Rattle.page_runner.specs.Watching.{AreAtPosts}
use Rattle.page_runner.proofs.watching.call_in.Given as goal

-- those that were met saw what was published last
abbrev pub invariant-loop-post : goal.invariant-loop-post
invariant-loop-post g l = record {
  board : l.board ≡ l.fn.board;
  left : AreAtPosts l.fn.board.table (into_iter_items l.post-iterator);
  seen : All (λ s. IsSeen s l.fn.board.stand) l.seen.items;
}

abbrev pub invariant-places : goal.invariant-places
invariant-places g l = record { seen : All (λ s. IsSeen s l.fn.board.stand) l.seen.items }
