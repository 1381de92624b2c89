use Rattle.std.proofs.Common.{length, map, [], Some, ap, ◌∙◌}
use Rattle.page_turns.proofs.WatchLemmas.{few_none}
use Rattle.page_runner.proofs.RunLemmas.{reads_nothing, page_no_memory}
use Rattle.page_runner.proofs.ReportLemmas.{cut_as_asked}
use Rattle.preload.specs.Teams.{crew_of}
use Rattle.page_runner.proofs.HelpLemmas.{answers_in, reports_in, helped_in}
use Rattle.page_runner.proofs.OnTwoLemmas.{is_journaled, drops_failed, is_looking_ahead, is_fetching_more}
use Rattle.page_runner.proofs.on_two.run_on_two.Goals as goal

pub returns-clause-journaled : goal.returns-clause-journaled
returns-clause-journaled g c =
    let ran = c.run_with-outcome in
    is_journaled g.E.InForce _ _ ran.new.doc _ ran.new.lanes.asks ran.ensures.goes ran.ensures.reports.entities ran.ensures.reports.ahead_is c.finish-ends.ensures.stopped
    c.requires.table c.finish-ends.ensures.in_order c.finish-ends.ensures.answered ran.result.0 ran.new.lanes.messages c.finish-ends.ensures.messages ran.ensures.messages

pub returns-clause-dropped : goal.returns-clause-dropped
returns-clause-dropped g c =
    let ran = c.run_with-outcome in
    drops_failed g.E.InForce _ _ ran.new.doc _ ran.new.lanes.asks ran.ensures.goes ran.ensures.reports.entities ran.ensures.reports.ahead_is c.finish-ends.ensures.stopped

pub returns-clause-looks_ahead : goal.returns-clause-looks_ahead
returns-clause-looks_ahead g c =
    let ran = c.run_with-outcome in
    is_looking_ahead _ _ ran.new.doc (Some ran.new.lanes.asks) ran.ensures.goes ran.ensures.reports.entities ran.ensures.reports.ahead_is

pub returns-clause-fetches : goal.returns-clause-fetches
returns-clause-fetches g c =
    let ran = c.run_with-outcome in
    is_fetching_more ran.new.early.given _ _ _ ran.new.doc (Some ran.new.lanes.asks) c.finish-helped.ensures.through ran.ensures.goes ran.ensures.reports.entities ran.ensures.reports.ahead_is

pub returns-clause-cut : goal.returns-clause-cut
returns-clause-cut g c = cut_as_asked _ _ _ _ _ _ (ap length c.deref_mut.ensures.value ∙ c.in-Ok.ensures.room) c.run_with-outcome.ensures.cut

pub returns-in_default-clause-runs : goal.returns-in_default-clause-runs
returns-in_default-clause-runs g c = rw c.without_memory.ensures.outcome (record { answer = page_no_memory _ _ _ _ _ _ _; reads = reads_nothing _ _ _; clean = λ e. absurd (cc e) })

pub returns-in_default-start-clause-runs : goal.returns-in_default-start-clause-runs
returns-in_default-start-clause-runs g c = rw c.without_fetchers.ensures.outcome (record { answer = page_no_memory _ _ _ _ _ _ _; reads = reads_nothing _ _ _; clean = λ e. absurd (cc e) })

-- ---- what was given early came of the helpers

pub returns-clause-runs : goal.returns-clause-runs
returns-clause-runs g c =
    let ran = c.run_with-outcome in
    record {
      answer = answers_in (crew_of g.F.Outside c.in-Ok-start.early) (crew_of g.F.Outside ran.new.early) ran.new.early.given _ _ _ _ _ [] c.in-Ok-start.ensures.dir (ap (map g.F.Outside.seen) c.in-Ok-start.ensures.was) c.in-Ok-start.ensures.used ran.ensures.crew c.as_str.ensures.value
          c.finish-helped.ensures.given _ _ _ _ _ _ _ _ _ _ ran.ensures.runs.answer;
      reads = ran.ensures.runs.reads;
      clean = ran.ensures.runs.clean;
    }

pub returns-clause-reports : goal.returns-clause-reports
returns-clause-reports g c =
    let ran = c.run_with-outcome in
    reports_in (crew_of g.F.Outside c.in-Ok-start.early) (crew_of g.F.Outside ran.new.early) ran.new.early.given _ _ _ _ _ [] c.in-Ok-start.ensures.dir (ap (map g.F.Outside.seen) c.in-Ok-start.ensures.was) c.in-Ok-start.ensures.used ran.ensures.crew c.as_str.ensures.value
    c.finish-helped.ensures.given _ _ _ _ _ _ _ _ _ _ ran.ensures.reports

pub returns-clause-helped : goal.returns-clause-helped
returns-clause-helped g c =
    let ran = c.run_with-outcome in
    helped_in (crew_of g.F.Outside c.in-Ok-start.early) (crew_of g.F.Outside ran.new.early) ran.new.early.given _ _ _ _ _ _ c.in-Ok-start.ensures.dir (ap (map g.F.Outside.seen) c.in-Ok-start.ensures.was) c.in-Ok-start.ensures.used ran.ensures.crew c.as_str.ensures.value
    c.finish-helped.ensures.back

-- ---- what those who watched saw last: no more than watched

pub returns-clause-few : goal.returns-clause-few
returns-clause-few g c = c.run_with-outcome.ensures.few

pub returns-in_default-clause-few : goal.returns-in_default-clause-few
returns-in_default-clause-few g c = few_none _ _ c.without_memory.ensures.seen

pub returns-in_default-start-clause-few : goal.returns-in_default-start-clause-few
returns-in_default-start-clause-few g c = few_none _ _ c.without_fetchers.ensures.seen

pub returns-clause-unbegun : goal.returns-clause-unbegun
returns-clause-unbegun g c = λ none. absurd (cc none)

pub returns-in_default-clause-unbegun : goal.returns-in_default-clause-unbegun
returns-in_default-clause-unbegun g c = λ _. c.without_memory.ensures.seen

pub returns-in_default-start-clause-unbegun : goal.returns-in_default-start-clause-unbegun
returns-in_default-start-clause-unbegun g c = λ _. c.without_fetchers.ensures.seen
