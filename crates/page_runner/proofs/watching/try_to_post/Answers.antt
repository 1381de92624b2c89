use Rattle.std.proofs.Common.{ap}
use Rattle.tree_watch.specs.Boards.{BoardView}
use Rattle.page_runner.proofs.WatchingLemmas.{shows_first, doc_first, shown_first}
use Rattle.page_runner.proofs.watching.try_to_post.Goals as goal

pub returns-in-Ok-clause-watching : goal.returns-in-Ok-clause-watching
returns-in-Ok-clause-watching g c =
    let b = c.in-Ok.board in
    record { showing = shows_first b c.in-Ok.ensures.begins; noted_all = λ _. ap (λ (x : BoardView). x.pending) c.in-Ok.ensures.begins; posted = c.in-Ok.ensures.posts }

pub returns-in-Ok-clause-doc : goal.returns-in-Ok-clause-doc
returns-in-Ok-clause-doc g c = doc_first c.in-Ok.board c.in-Ok.ensures.begins

pub returns-in-Ok-clause-shown : goal.returns-in-Ok-clause-shown
returns-in-Ok-clause-shown g c = shown_first c.in-Ok.board c.in-Ok.ensures.begins
