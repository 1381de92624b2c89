use Rattle.std.proofs.Common.{length, ap, ◌∙◌}
use Rattle.page_runner.proofs.RunLemmas.{page_no_memory, reads_nothing}
use Rattle.page_runner.proofs.ReportLemmas.{cut_as_asked}
use Rattle.page_runner.proofs.OnTwoLemmas.{is_looking_ahead, is_fetching_awaited}
use Rattle.page_runner.proofs.in_place.run_begun.Goals as goal

pub returns-in-Err-clause-runs : goal.returns-in-Err-clause-runs
returns-in-Err-clause-runs g c = record { answer = page_no_memory _ _ _ _ _ _ _; reads = reads_nothing _ _ _; clean = λ e. absurd (cc e) }

pub returns-clause-looks_ahead : goal.returns-clause-looks_ahead
returns-clause-looks_ahead g c =
    let ran = c.run_with-outcome in
    is_looking_ahead _ _ ran.new.doc _ ran.ensures.goes ran.ensures.reports.entities ran.ensures.reports.ahead_is

pub returns-clause-fetches : goal.returns-clause-fetches
returns-clause-fetches g c =
    let ran = c.run_with-outcome in
    is_fetching_awaited _ _ _ ran.new.doc _ ran.ensures.goes ran.ensures.reports.entities ran.ensures.reports.ahead_is

pub returns-clause-cut : goal.returns-clause-cut
returns-clause-cut g c = cut_as_asked _ _ _ _ _ _ (ap length c.deref_mut.ensures.value ∙ c.in-Ok.ensures.room) c.run_with-outcome.ensures.cut
