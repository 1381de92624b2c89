use Rattle.std.proofs.Common.{◌≡◌, ◌≤◌, [], length, Option, rules, sym, subst, ap, ◌∙◌}
use Rattle.page_turns.specs.Watched.{AreLast}
use Rattle.page_turns.proofs.WatchLemmas.{none_seen, few_none}
use Rattle.page_runner.specs.Watching.{Watched, AreAtPosts, doc_of}
use Rattle.tree_watch.specs.Boards.{BoardView}
use Rattle.page_runner.proofs.WatchingLemmas.{at_work, gone}
use Rattle.page_runner.proofs.watching.WatchingWatch.end.Goals as goal

pub end_on-requires-clause-showing : goal.end_on-requires-clause-showing
end_on-requires-clause-showing g c =
    let i = c.self.inside in
    (at_work i.board c.in-Some.board i.failed i.posts.items c.self.invariant (sym c.in-Some.ensures.value)).showing

pub end_on-requires-clause-noted : goal.end_on-requires-clause-noted
end_on-requires-clause-noted g c =
    let i = c.self.inside in
    (at_work i.board c.in-Some.board i.failed i.posts.items c.self.invariant (sym c.in-Some.ensures.value)).noted_all

pub end_on-requires-clause-posts : goal.end_on-requires-clause-posts
end_on-requires-clause-posts g c =
    let i = c.self.inside in
    subst (λ v. AreAtPosts c.in-Some.board.table v.items) (sym c.replace-posts.ensures.value)
    (at_work i.board c.in-Some.board i.failed i.posts.items c.self.invariant (sym c.in-Some.ensures.value)).posted

pub returns-clause-seen : goal.returns-clause-seen
returns-clause-seen g c =
    subst (λ (w : Watched). AreLast (doc_of w.board) c.end_on.result.0.items) c.self.view_is
    (subst (λ (o : Option BoardView). AreLast (doc_of o) c.end_on.result.0.items) c.in-Some.ensures.value c.end_on.ensures.seen)

pub returns-clause-count : goal.returns-clause-count
returns-clause-count g c = λ all. c.end_on.ensures.count all ∙ ap (λ (w : Watched). w.count) c.self.view_is

pub returns-clause-few : goal.returns-clause-few
returns-clause-few g c = subst (λ n. length c.end_on.result.0.items ≤ n) (ap (λ (w : Watched). w.count) c.self.view_is) c.end_on.ensures.few

-- the run is over

pub returns-in_default-clause-few : goal.returns-in_default-clause-few
returns-in_default-clause-few g c = few_none _ _ c.none_seen.ensures

pub returns-in_default-clause-seen : goal.returns-in_default-clause-seen
returns-in_default-clause-seen g c = none_seen _ c.none_seen.result.items c.none_seen.ensures

-- nobody watches any more

pub invariant_of-self : goal.invariant_of-self
invariant_of-self g c = gone c.replace.new.dest c.self.inside.failed c.replace-posts.new.dest.items c.replace.ensures.after

pub invariant_of-self-2 : goal.invariant_of-self-2
invariant_of-self-2 g c = gone c.replace.new.dest c.self.inside.failed c.replace-posts.new.dest.items c.replace.ensures.after
