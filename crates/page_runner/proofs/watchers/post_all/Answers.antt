use Rattle.std.proofs.Common.{◌≡◌, List, [], ◌∷◌, ◌++◌, length, refl, sym, ap, subst, ◌∙◌, append_assoc, append-nil, length-append, arith}
use Rattle.std.specs.Vec.Iter.{into_iter_items, into_iter_len}
use Rattle.std.proofs.lemmas.Iterator.Adapters.{YieldsList-from_vec}
use Rattle.std.proofs.lemmas.Iterator.Consumers.{YieldsList-end}
use Rattle.std.proofs.lemmas.List.{nil_from_length}
use Rattle.tree_watch.specs.Boards.{WatcherView}
use Rattle.page_runner.specs.Partings.{AreOfBoard}
use Rattle.page_runner.proofs.WatchingLemmas.{posted_more}
use Rattle.page_runner.proofs.watchers.post_all.Goals as goal

pub loop-watcher-preserved : goal.loop-watcher-preserved
loop-watcher-preserved g c =
    let i = c.loop-watcher.invariant in
    let step = c.in-Some.ensures.steps.0 in
    record {
      items = append_assoc c.loop-watcher.yielded (c.in-Some.watcher ∷ []) (into_iter_items c.next.new.self) ∙ (ap (λ ws. c.loop-watcher.yielded ++ ws) (sym step) ∙ i.items);
      room = omega (arith, c.push_reserved.ensures.len, c.push_reserved.ensures.capacity, i.room, ap length step);
      posted = λ table. posted_more table c.loop-watcher.yielded c.in-Some.watcher c.loop-watcher.posts.items c.push_reserved.new.self.items c.post_one-at.result c.push_reserved.ensures.items c.post_one-at.ensures (i.posted table);
    }

pub returns : goal.returns
returns g c =
    let i = c.loop-watcher.invariant in
    let gives = c.into_iter-watcher-iterator.ensures.into_iter_gives in
    let all = into_iter_items c.into_iter-watcher-iterator.result in
    let len : into_iter_len c.into_iter-watcher-iterator.result ≡ length all = gives.1 ∙ (c.args.watchers.ok.0 ∙ ap length (sym gives.0)) in
    let end' = YieldsList-end (YieldsList-from_vec {s = c.into_iter-watcher-iterator.result} all refl len) c.loop-watcher.yielded c.loop-watcher.watcher-iterator c.loop-watcher.yielded_by c.next.result c.next.new.self c.in-None.is c.next.ensures.steps in
    let none : into_iter_items c.loop-watcher.watcher-iterator ≡ [] =
    nil_from_length _ (omega (arith, end'.1, ap length i.items, length-append c.loop-watcher.yielded (into_iter_items c.loop-watcher.watcher-iterator))) in
    let whole : c.loop-watcher.yielded ≡ c.args.watchers.items =
    sym (append-nil c.loop-watcher.yielded) ∙ (ap (λ (ws : List WatcherView). c.loop-watcher.yielded ++ ws) (sym none) ∙ (i.items ∙ gives.0)) in
    λ table of_board. i.posted table (subst (λ (ws : List WatcherView). AreOfBoard table ws) (sym whole) of_board)
