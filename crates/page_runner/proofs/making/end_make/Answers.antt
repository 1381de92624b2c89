use Rattle.std.proofs.Common.{subst}
use Rattle.page_runner.specs.Making.{IsRunOf}
use Rattle.page_runner.proofs.MakingLemmas.{makes-finished, makes-refused, refusal-of}
use Rattle.page_runner.proofs.making.end_make.Goals as goal

pub end_refused-requires : goal.end_refused-requires
end_refused-requires g c = refusal-of c.args.words c.in-Refused.outcome (subst (IsRunOf c.args.words) c.in-Refused.is c.requires)

pub returns-in-Finished-clause-makes : goal.returns-in-Finished-clause-makes
returns-in-Finished-clause-makes g c = makes-finished c.args.words c.in-Finished.tally _ _ _ _ (subst (IsRunOf c.args.words) c.in-Finished.is c.requires) c.end_finished.ensures.gives

pub returns-in-Refused-clause-makes : goal.returns-in-Refused-clause-makes
returns-in-Refused-clause-makes g c = makes-refused c.args.words c.in-Refused.outcome _ _ _ _ (subst (IsRunOf c.args.words) c.in-Refused.is c.requires) c.end_refused.ensures.gives
