use Rattle.std.proofs.Common.{◌≡◌, fold, refl, sym, ap, subst, List}
use Rattle.doc_changes.specs.declared.change.Change.{Change}
use Rattle.doc_changes.specs.Changes.{changed}
use Rattle.page_turns.specs.Watched.{grown_by, shown_with}
use Rattle.page_turns.proofs.LineLemmas.{ok_weaker, err_weaker}
use Rattle.page_runner.specs.Watching.{Watched, doc_of, shown_of}
use Rattle.page_runner.proofs.WatchingLemmas.{none_told, some_told, grown_none, going_there, watching_after, doc_after, shown_after, doc_left, shown_left}
use Rattle.page_runner.proofs.watching.WatchingWatch.did.Goals as goal

pub show_all-board-requires : goal.show_all-board-requires
show_all-board-requires g c =
    let i = c.self.inside in
    going_there i.board c.replace-board.result i.failed i.posts.items c.self.invariant c.replace-board.ensures.value

-- nothing is to be shown

pub returns-then-is_empty-clause-doc : goal.returns-then-is_empty-clause-doc
returns-then-is_empty-clause-doc g c =
    let none = none_told _ _ c.args.changes.items c.is_empty.ensures c.args.changes.ok.0 c.if-is_empty.true in
    λ _. grown_none (doc_of c.args.self.now.board) c.args.changes.items none

pub returns-then-is_empty-clause-shown : goal.returns-then-is_empty-clause-shown
returns-then-is_empty-clause-shown g c =
    let none = none_told _ _ c.args.changes.items c.is_empty.ensures c.args.changes.ok.0 c.if-is_empty.true in
    λ _. subst (λ (cs : List Change). shown_of c.args.self.now.board ≡ shown_with cs (shown_of c.args.self.now.board) (fold changed (doc_of c.args.self.now.board).doc cs)) (sym none) refl

-- the board is put back

pub invariant_of-self : goal.invariant_of-self
invariant_of-self g c =
    let i = c.self.inside in
    let to = c.show_all-board in
    watching_after i.board c.replace-board.result to.result.0 c.replace.new.dest i.failed to.result.1 c.args.changes.items i.posts.items c.self.invariant c.replace-board.ensures.value c.replace.ensures.after
    to.ensures.shown to.ensures.left

pub returns-clause-count : goal.returns-clause-count
returns-clause-count g c = ap (λ (w : Watched). w.count) c.self.view_is

pub returns-clause-doc : goal.returns-clause-doc
returns-clause-doc g c =
    let i = c.self.inside in
    let to = c.show_all-board in
    λ _. ok_weaker _ _ _ (λ going. subst (λ (w : Watched). doc_of c.replace.new.dest ≡ grown_by (doc_of w.board) c.args.changes.items) c.self.view_is
    (doc_after i.board c.replace-board.result to.result.0 c.replace.new.dest i.failed to.result.1 c.args.changes.items i.posts.items c.self.invariant c.replace-board.ensures.value c.replace.ensures.after
    (to.ensures.shown going))) c.told.ensures.ok

pub returns-clause-shown : goal.returns-clause-shown
returns-clause-shown g c =
    let i = c.self.inside in
    let to = c.show_all-board in
    let some = some_told _ _ c.args.changes.items c.is_empty.ensures c.args.changes.ok.0 c.if-is_empty.false in
    λ _. ok_weaker _ _ _ (λ going. subst (λ (w : Watched). shown_of c.replace.new.dest ≡ shown_with c.args.changes.items (shown_of w.board) (fold changed (doc_of w.board).doc c.args.changes.items)) c.self.view_is
    (shown_after i.board c.replace-board.result to.result.0 c.replace.new.dest i.failed to.result.1 c.args.changes.items i.posts.items c.self.invariant c.replace-board.ensures.value c.replace.ensures.after
    some (to.ensures.shown going))) c.told.ensures.ok

pub returns-clause-err : goal.returns-clause-err
returns-clause-err g c =
    let i = c.self.inside in
    let to = c.show_all-board in
    err_weaker _ _ _ (λ lost. subst (λ (w : Watched). doc_of c.replace.new.dest ≡ doc_of w.board) c.self.view_is
    (doc_left i.board c.replace-board.result to.result.0 c.replace.new.dest i.failed to.result.1 c.args.changes.items i.posts.items c.self.invariant c.replace-board.ensures.value c.replace.ensures.after
    (to.ensures.left lost))) c.told.ensures.err

pub returns-clause-err_shown : goal.returns-clause-err_shown
returns-clause-err_shown g c =
    let i = c.self.inside in
    let to = c.show_all-board in
    err_weaker _ _ _ (λ lost. subst (λ (w : Watched). shown_of c.replace.new.dest ≡ shown_of w.board) c.self.view_is
    (shown_left i.board c.replace-board.result to.result.0 c.replace.new.dest i.failed to.result.1 c.args.changes.items i.posts.items c.self.invariant c.replace-board.ensures.value c.replace.ensures.after
    (to.ensures.left lost))) c.told.ensures.err
