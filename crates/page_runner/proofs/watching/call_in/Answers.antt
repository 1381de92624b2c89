use Rattle.std.proofs.Common.{◌≡◌, ◌∙◌, List, ap, sym, subst, IfSome}
use Rattle.std.specs.List.{All}
use Rattle.std.proofs.lemmas.List.Elements.{All-head, All-tail, All-nil}
use Rattle.std.specs.Vec.Iter.{into_iter_items}
use Rattle.tree_watch.specs.Boards.{BoardView}
use Rattle.tree_watch.specs.Seeing.{IsSeen}
use Rattle.tree_watch.specs.declared.watcher.Seen.{Seen}
use Rattle.page_turns.proofs.WatchLemmas.{few_none}
use Rattle.page_runner.specs.declared.watchers.Post.{Post}
use Rattle.page_runner.specs.Watching.{table_at, AreAtPosts}
use Rattle.page_runner.proofs.WatchingLemmas.{met_last}
use Rattle.page_runner.proofs.watching.call_in.Goals as goal

pub leave-last-requires : goal.leave-last-requires
leave-last-requires g c =
    let i = c.loop-post.invariant in
    let step = c.in-Some.ensures.steps.0 in
    All-head (λ (p : Post). table_at p ≡ c.args.board.now.table) c.in-Some.post (into_iter_items c.next.new.self) (subst (AreAtPosts c.args.board.now.table) step i.left) ∙ sym (ap (λ (b : BoardView). b.table) i.board)

pub loop-post-preserved : goal.loop-post-preserved
loop-post-preserved g c =
    let i = c.loop-post.invariant in
    let step = c.in-Some.ensures.steps.0 in
    let met = met_last c.args.board.now c.loop-post.board c.leave-last.result i.board c.requires.stands c.requires.marked c.leave-last.ensures.seen in
    record {
      board = c.leave-last.ensures.board ∙ i.board;
      left = All-tail (λ (p : Post). table_at p ≡ c.args.board.now.table) c.in-Some.post (into_iter_items c.next.new.self) (subst (AreAtPosts c.args.board.now.table) step i.left);
      seen = c.add_last-all.ensures c.args.board.now.stand met i.seen;
    }

pub places-preserved : goal.places-preserved
places-preserved g c =
    let now = subst (λ (b : BoardView). IfSome c.look_now-last.result (λ s. IsSeen s b.stand)) c.loop-post.invariant.board c.look_now-last.ensures in
    record { seen = c.add_last-all-in-places.ensures c.args.board.now.stand now c.places.invariant.seen }

-- not as many as watched

pub returns-then-not-whole-clause-seen : goal.returns-then-not-whole-clause-seen
returns-then-not-whole-clause-seen g c =
    subst (λ (l : List Seen). All (λ s. IsSeen s c.args.board.now.stand) l) (sym c.none_seen.ensures) (All-nil (λ s. IsSeen s c.args.board.now.stand))

pub returns-then-not-whole-clause-few : goal.returns-then-not-whole-clause-few
returns-then-not-whole-clause-few g c = few_none _ _ c.none_seen.ensures
