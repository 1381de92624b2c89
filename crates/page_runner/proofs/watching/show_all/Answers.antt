use Rattle.std.proofs.Common.{◌≡◌, false, true≢false, refl, sym, subst, Some, None, IfSome}
use Rattle.std.specs.Prelude.{Option}
use Rattle.tree_watch.specs.Boards.{BoardView}
use Rattle.page_runner.specs.Watching.{IsLeftFrom}
use Rattle.page_runner.proofs.watching.show_all.Goals as goal

pub show_on-board-requires : goal.show_on-board-requires
show_on-board-requires g c = subst (λ (o : Option BoardView). IfSome o (λ (b : BoardView). b.over ≡ false)) c.in-Some.is c.requires

pub returns-in-None-clause-shown : goal.returns-in-None-clause-shown
returns-in-None-clause-shown g c = λ e. absurd (true≢false e)

pub returns-in-None-clause-left : goal.returns-in-None-clause-left
returns-in-None-clause-left g c = λ _. subst (λ (o : Option BoardView). IsLeftFrom o None) (sym c.in-None.is) refl

pub returns-in-Some-clause-shown : goal.returns-in-Some-clause-shown
returns-in-Some-clause-shown g c = λ e.
    (let s = c.show_on-board.ensures.shown e in record { old = c.in-Some.board; new = c.show_on-board.result.0; there = c.in-Some.is; here = refl; going = s.0; shown = s.1 })

pub returns-in-Some-clause-left : goal.returns-in-Some-clause-left
returns-in-Some-clause-left g c = λ e.
    subst (λ (o : Option BoardView). IsLeftFrom o (Some c.show_on-board.result.0)) (sym c.in-Some.is) (c.show_on-board.result.0, refl, c.show_on-board.ensures.left e)
