use Rattle.std.proofs.Common.{rules, ◌≡◌, [], sym, subst}
use Rattle.std.proofs.lemmas.List.Elements.{All-nil}
use Rattle.page_runner.specs.declared.watchers.Post.{Post}
use Rattle.page_runner.specs.Watching.{table_at, AreAtPosts}
use Rattle.page_runner.proofs.watching.post_watchers.Goals as goal

pub post_all-requires-clause-none : goal.post_all-requires-clause-none
post_all-requires-clause-none g c = λ κs within table.
    (let none : c.reserve.new.self.items ≡ [] = search rules in subst (AreAtPosts table) (sym none) (All-nil (λ (p : Post). table_at p ≡ table)))

pub returns-clause-posts : goal.returns-clause-posts
returns-clause-posts g c = c.post_all.ensures c.in_ok-board.board.table c.in_ok-board.ensures.watchers
