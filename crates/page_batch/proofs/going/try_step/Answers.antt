use Rattle.std.proofs.Common.{sym, ◌∙◌}
use Rattle.page_batch.proofs.going.try_step.Goals as goal

pub step-requires : goal.step-requires
step-requires g c = sym c.enabled.ensures ∙ c.if-not-enabled.false

pub returns-clause-taken : goal.returns-clause-taken
returns-clause-taken g c = record { is = c.in_ok-step.ensures.others; nearer = c.in_ok-step.ensures.nearer }
