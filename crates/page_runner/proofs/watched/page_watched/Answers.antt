use Rattle.std.proofs.Common.{◌≡◌, ◌≤◌, length, true, IfSome, Ok, refl, sym, subst, inl, inr, arith}
use Rattle.std.specs.String.{string_bytes}
use Rattle.page_runner.specs.Manner.{manner}
use Rattle.page_runner.specs.Watching.{IsWatched}
use Rattle.page_runner.proofs.RunLemmas.{page_no_memory, page_since, first_begun, reads_since}
use Rattle.page_turns.proofs.LineLemmas.{if_some}
use Rattle.page_turns.proofs.WatchLemmas.{few_none}
use Rattle.page_runner.proofs.ReportLemmas.{reports_since, cut_since, side_since, no_side}
use Rattle.page_runner.proofs.watched.page_watched.Goals as goal

pub returns-in-Some-clause-answer : goal.returns-in-Some-clause-answer
returns-in-Some-clause-answer g c = rw c.bare.ensures.outcome (c.in-Some.ensures.begins.answer c.args.job.now.table.now (manner c.args.job.now.dump c.args.watchers) _)

pub returns-in-Some-clause-reads : goal.returns-in-Some-clause-reads
returns-in-Some-clause-reads g c = inl (c.in-Some.ensures.begins.reads (string_bytes c.args.job.now.dir))

pub returns-in-Some-clause-clean : goal.returns-in-Some-clause-clean
returns-in-Some-clause-clean g c = rw c.bare.ensures.outcome c.in-Some.ensures.clean

pub returns-in-Some-clause-side : goal.returns-in-Some-clause-side
returns-in-Some-clause-side g c = inl (no_side _ _ _ _ _ _ c.bare.result.side c.in-Some.ensures.begins.closed)

pub run_on_two-report-requires-clause-begun : goal.run_on_two-report-requires-clause-begun
run_on_two-report-requires-clause-begun g c κs within = c.in-None.ensures.begins.found

pub returns-in-None-clause-answer : goal.returns-in-None-clause-answer
returns-in-None-clause-answer g c =
    let at = g.F.Outside.seen in
    let b = c.in-None.ensures.begins in
    let count : c.start-publisher.result.count ≡ c.args.watchers = c.start-publisher.ensures.count in
    rw (sym count, sym c.in-None.ensures.untouched)
    (page_since c.args.job.now.table.now (manner c.args.job.now.dump c.start-publisher.result.count) (string_bytes c.args.job.now.page) _
    (at c.args.files.now) (at c.begin_page.new.files) (at c.run_on_two-report.new.files) _ _ _ _ _ (string_bytes c.args.job.now.page) (Ok true) b.others b.no_fault b.calls c.run_on_two-report.ensures.runs.answer)

pub returns-in-None-clause-reads : goal.returns-in-None-clause-reads
returns-in-None-clause-reads g c =
    let at = g.F.Outside.seen in
    let b = c.in-None.ensures.begins in
    inl (reads_since (string_bytes c.args.job.now.page) (string_bytes c.args.job.now.dir) (string_bytes c.args.job.now.page) (at c.args.files.now) (at c.begin_page.new.files) (at c.run_on_two-report.new.files) refl b.others
    b.begun (Ok true) b.calls b.found c.run_on_two-report.ensures.runs.reads)

pub returns-in-None-clause-reports : goal.returns-in-None-clause-reports
returns-in-None-clause-reports g c =
    let at = g.F.Outside.seen in
    let b = c.in-None.ensures.begins in
    let count : c.start-publisher.result.count ≡ c.args.watchers = c.start-publisher.ensures.count in
    rw (sym count, sym c.in-None.ensures.untouched)
    (if_some c.run_on_two-report.result.side
    (λ side reports. reports_since c.args.job.now.table.now c.args.job.now.ahead (manner c.args.job.now.dump c.start-publisher.result.count) (string_bytes c.args.job.now.page) _ (at c.args.files.now) (at c.begin_page.new.files) (at c.run_on_two-report.new.files) _ _ side _
    b.others b.no_fault (first_begun (string_bytes c.args.job.now.page) (Ok true) (at c.args.files.now) (at c.begin_page.new.files) _ b.calls) reports) c.run_on_two-report.ensures.reports)

pub returns-in-None-clause-side : goal.returns-in-None-clause-side
returns-in-None-clause-side g c =
    let at = g.F.Outside.seen in
    let b = c.in-None.ensures.begins in
    rw (sym c.in-None.ensures.untouched)
    (inl (side_since (string_bytes c.args.job.now.page) (string_bytes c.args.job.now.page) (Ok true) (at c.args.files.now) (at c.begin_page.new.files) (at c.run_on_two-report.new.files) _ _ _ _ refl refl b.others b.calls b.found c.run_on_two-report.ensures.side))

pub returns-in-None-clause-cut : goal.returns-in-None-clause-cut
returns-in-None-clause-cut g c =
    let at = g.F.Outside.seen in
    let b = c.in-None.ensures.begins in
    if_some c.run_on_two-report.result.side
    (λ side cut. cut_since c.args.job.now.piece (string_bytes c.args.job.now.page) (string_bytes c.args.job.now.page) (Ok true) (at c.args.files.now) (at c.begin_page.new.files) (at c.run_on_two-report.new.files) _ _ refl refl b.others b.calls b.found cut)
    c.run_on_two-report.ensures.cut

pub returns-in-None-clause-watched : goal.returns-in-None-clause-watched
returns-in-None-clause-watched g c = λ some.
    let count : c.start-publisher.result.count ≡ c.args.watchers = c.start-publisher.ensures.count in
    let report = c.run_on_two-report.result in
    subst (λ n. IfSome report.side (λ side. IsWatched side report.outcome n report.seen.items)) count (c.run_on_two-report.ensures.watched refl)

pub returns-in-None-clause-few : goal.returns-in-None-clause-few
returns-in-None-clause-few g c =
    let count : c.start-publisher.result.count ≡ c.args.watchers = c.start-publisher.ensures.count in
    subst (λ n. length c.run_on_two-report.result.seen.items ≤ n) count c.run_on_two-report.ensures.few

pub returns-in-Some-clause-few : goal.returns-in-Some-clause-few
returns-in-Some-clause-few g c = few_none _ _ c.bare.ensures.seen

pub returns-in-Some-clause-unbegun : goal.returns-in-Some-clause-unbegun
returns-in-Some-clause-unbegun g c = λ _. c.bare.ensures.seen

-- ---- nobody watches

pub returns-then-watchers-eq0-clause-few : goal.returns-then-watchers-eq0-clause-few
returns-then-watchers-eq0-clause-few g c = few_none _ _ c.page_on_two.ensures.unseen

pub returns-then-watchers-eq0-clause-unbegun : goal.returns-then-watchers-eq0-clause-unbegun
returns-then-watchers-eq0-clause-unbegun g c = λ _. c.page_on_two.ensures.unseen

pub returns-then-watchers-eq0-clause-answer : goal.returns-then-watchers-eq0-clause-answer
returns-then-watchers-eq0-clause-answer g c = rw c.if-watchers-eq0.true c.page_on_two.ensures.answer

pub returns-then-watchers-eq0-clause-reports : goal.returns-then-watchers-eq0-clause-reports
returns-then-watchers-eq0-clause-reports g c = rw c.if-watchers-eq0.true c.page_on_two.ensures.reports

pub returns-then-watchers-eq0-clause-reads : goal.returns-then-watchers-eq0-clause-reads
returns-then-watchers-eq0-clause-reads g c = inl c.page_on_two.ensures.reads

pub returns-then-watchers-eq0-clause-watched : goal.returns-then-watchers-eq0-clause-watched
returns-then-watchers-eq0-clause-watched g c = λ some. absurd (omega (arith, some, c.if-watchers-eq0.true))

pub returns-then-watchers-eq0-clause-side : goal.returns-then-watchers-eq0-clause-side
returns-then-watchers-eq0-clause-side g c = inl c.page_on_two.ensures.side

-- ---- there was no memory for the lane

pub returns-in_default-clause-answer : goal.returns-in_default-clause-answer
returns-in_default-clause-answer g c = rw c.without_memory.ensures.outcome (page_no_memory _ _ _ _ _ _ _)

pub returns-in_default-clause-reads : goal.returns-in_default-clause-reads
returns-in_default-clause-reads g c = inr refl

pub returns-in_default-clause-side : goal.returns-in_default-clause-side
returns-in_default-clause-side g c = inr (refl, refl, c.without_memory.ensures.outcome)

pub returns-in_default-clause-few : goal.returns-in_default-clause-few
returns-in_default-clause-few g c = few_none _ _ c.without_memory.ensures.seen

pub returns-in_default-clause-unbegun : goal.returns-in_default-clause-unbegun
returns-in_default-clause-unbegun g c = λ _. c.without_memory.ensures.seen
