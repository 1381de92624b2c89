use Rattle.std.proofs.Common.{rules, true, true≢false, refl, sym}
use Rattle.tree_watch.specs.Boards.{HasPublished, HasNotPublished}
use Rattle.page_runner.proofs.watching.mark.Goals as goal

pub returns-then-failed-clause-marked : goal.returns-then-failed-clause-marked
returns-then-failed-clause-marked g c = λ e. absurd (true≢false (sym e))

pub returns-then-failed-clause-kept : goal.returns-then-failed-clause-kept
returns-then-failed-clause-kept g c = λ _. refl

pub returns-then-is_err-clause-marked : goal.returns-then-is_err-clause-marked
returns-then-is_err-clause-marked g c = λ e. absurd (true≢false (sym e))

pub returns-then-is_err-clause-kept : goal.returns-then-is_err-clause-kept
returns-then-is_err-clause-kept g c = λ _.
    (let kept : HasNotPublished true c.args.board c.publish-board.result.0 = search rules in kept.published)

pub returns-clause-marked : goal.returns-clause-marked
returns-clause-marked g c = λ _.
    (let published : HasPublished true c.args.board c.publish-board.result.0 = search rules in (c.if-failed.false, published))

pub returns-clause-kept : goal.returns-clause-kept
returns-clause-kept g c = λ e. absurd (true≢false e)
