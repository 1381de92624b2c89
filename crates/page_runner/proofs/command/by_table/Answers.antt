use Rattle.std.proofs.Common.{refl, inr}
use Rattle.std.specs.String.{string_bytes}
use Rattle.page_runner.proofs.HelpLemmas.{helped_back, helpers_stay}
use Rattle.page_runner.proofs.RunLemmas.{page_no_memory}
use Rattle.page_runner.proofs.command.by_table.Goals as goal

pub returns-in_default-clause-runs : goal.returns-in_default-clause-runs
returns-in_default-clause-runs g c = record { answer = page_no_memory _ _ _ _ _ _ _; reads = inr refl; clean = λ e. absurd (cc e) }

pub returns-in_default-clause-helpers : goal.returns-in_default-clause-helpers
returns-in_default-clause-helpers g c = helpers_stay c.args.job.now.preload _

pub returns-clause-helpers : goal.returns-clause-helpers
returns-clause-helpers g c =
    helped_back (string_bytes c.args.job.now.dir) c.page_watched-report.result.helped.items c.args.job.now.preload _ _ c.page_watched-report.ensures.used c.page_watched-report.ensures.helped
