use Rattle.std.proofs.Common.{◌∙◌}
use Rattle.preload.proofs.Giving.{serves}
use Rattle.preload.proofs.fetch.fetch_all.Goals as goal

pub loop-preserved-in-Ask : goal.loop-preserved-in-Ask
loop-preserved-in-Ask g c =
    let h = c.loop.invariant in
    (c.in-Ask.ensures.lane ∙ h.0, c.put.ensures.lane ∙ h.1, serves _ _ _ _ _ _ _ _ _ _ c.in-Ask.ensures.taken c.put.ensures.put c.fetch_one-answer.ensures.given c.fetch_one-answer.ensures.begins c.fetch_one-answer.ensures.others h.2)

pub loop-preserved : goal.loop-preserved
loop-preserved g c =
    let h = c.loop.invariant in
    (c.in-Ask.ensures.lane ∙ h.0, c.put.ensures.lane ∙ h.1, serves _ _ _ _ _ _ _ _ _ _ c.in-Ask.ensures.taken c.put.ensures.put c.fetch_one-answer.ensures.given c.fetch_one-answer.ensures.begins c.fetch_one-answer.ensures.others h.2)
