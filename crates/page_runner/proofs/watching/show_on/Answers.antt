use Rattle.std.proofs.Common.{rules, true≢false, refl, sym}
use Rattle.page_runner.specs.Watching.{HasShown, HasKept}
use Rattle.page_runner.proofs.watching.show_on.Goals as goal

pub returns-then-failed-clause-shown : goal.returns-then-failed-clause-shown
returns-then-failed-clause-shown g c = λ e. absurd (true≢false e)

pub returns-then-failed-clause-left : goal.returns-then-failed-clause-left
returns-then-failed-clause-left g c = λ _. record { over = c.requires; table = refl; stand = refl; published = refl }

pub returns-then-is_err-clause-shown : goal.returns-then-is_err-clause-shown
returns-then-is_err-clause-shown g c = λ e. absurd (true≢false e)

pub returns-then-is_err-clause-left : goal.returns-then-is_err-clause-left
returns-then-is_err-clause-left g c = λ _.
    (let kept : HasKept c.args.board c.show-board.result.0 = search rules in kept)

pub returns-clause-shown : goal.returns-clause-shown
returns-clause-shown g c = λ _.
    (let shown : HasShown c.args.board c.args.changes.items c.show-board.result.0 = search rules in (c.if-failed.false, shown))

pub returns-clause-left : goal.returns-clause-left
returns-clause-left g c = λ e. absurd (true≢false (sym e))
