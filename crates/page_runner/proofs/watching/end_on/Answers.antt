use Rattle.std.proofs.Common.{sym, subst}
use Rattle.atomic_table.specs.Seated.{TableId}
use Rattle.page_turns.proofs.WatchLemmas.{none_seen, few_none}
use Rattle.page_runner.specs.Watching.{AreAtPosts}
use Rattle.page_runner.proofs.WatchingLemmas.{are_last, marked_stands, marked_last}
use Rattle.page_runner.proofs.watching.end_on.Goals as goal

pub mark-board-requires : goal.mark-board-requires
mark-board-requires g c = c.requires.showing.going

pub call_in-called-requires-clause-posts : goal.call_in-called-requires-clause-posts
call_in-called-requires-clause-posts g c = subst (λ (t : TableId). AreAtPosts t c.args.posts.items) (sym c.mark-board.ensures.table) c.requires.posts

pub call_in-called-requires-clause-stands : goal.call_in-called-requires-clause-stands
call_in-called-requires-clause-stands g c =
    let marked = c.mark-board.ensures.marked c.if-not-marked.false in
    marked_stands c.args.board c.mark-board.result.0 (c.requires.noted marked.0) marked.1

pub call_in-called-requires-clause-marked : goal.call_in-called-requires-clause-marked
call_in-called-requires-clause-marked g c =
    let marked = c.mark-board.ensures.marked c.if-not-marked.false in
    marked_last c.args.board c.mark-board.result.0 (c.requires.noted marked.0) marked.1

pub returns-clause-seen : goal.returns-clause-seen
returns-clause-seen g c =
    let marked = c.mark-board.ensures.marked c.if-not-marked.false in
    are_last c.args.board c.mark-board.result.0 (c.requires.noted marked.0) marked.1 c.call_in-called.result.0.items c.call_in-called.ensures.seen

-- memory ran out

pub returns-then-not-marked-clause-seen : goal.returns-then-not-marked-clause-seen
returns-then-not-marked-clause-seen g c = none_seen _ c.none_seen.result.items c.none_seen.ensures

pub returns-then-not-marked-clause-few : goal.returns-then-not-marked-clause-few
returns-then-not-marked-clause-few g c = few_none _ _ c.none_seen.ensures
