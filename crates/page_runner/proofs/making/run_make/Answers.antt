use Rattle.page_runner.proofs.MakingLemmas.{makes-nothing}
use Rattle.page_runner.proofs.making.run_make.Goals as goal

pub returns-in-Err-clause-makes : goal.returns-in-Err-clause-makes
returns-in-Err-clause-makes g c = makes-nothing c.args.words _ _
