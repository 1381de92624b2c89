use Rattle.std.proofs.Common.{[], true, Ok, refl, sym}
use Rattle.std.specs.String.{string_bytes}
use Rattle.page_turns.specs.Scripts.{folder_with}
use Rattle.page_runner.specs.Manner.{manner}
use Rattle.page_runner.proofs.RunLemmas.{page_since, first_begun, reads_since}
use Rattle.page_turns.proofs.LineLemmas.{if_some}
use Rattle.page_runner.proofs.ReportLemmas.{reports_since, cut_since, side_since, no_side}
use Rattle.page_runner.proofs.in_place.page_in_place.Goals as goal

pub returns-in-Some-clause-answer : goal.returns-in-Some-clause-answer
returns-in-Some-clause-answer g c = rw c.bare.ensures.outcome (c.in-Some.ensures.begins.answer c.args.job.now.table.now (manner c.args.job.now.dump 0) (folder_with (string_bytes c.args.job.now.dir) []))

pub returns-in-Some-clause-reads : goal.returns-in-Some-clause-reads
returns-in-Some-clause-reads g c = c.in-Some.ensures.begins.reads (string_bytes c.args.job.now.dir)

pub returns-in-Some-clause-clean : goal.returns-in-Some-clause-clean
returns-in-Some-clause-clean g c = rw c.bare.ensures.outcome c.in-Some.ensures.clean

pub returns-in-Some-clause-side : goal.returns-in-Some-clause-side
returns-in-Some-clause-side g c = no_side _ _ _ _ _ _ c.bare.result.side c.in-Some.ensures.begins.closed

pub run_begun-outcome-requires-clause-begun : goal.run_begun-outcome-requires-clause-begun
run_begun-outcome-requires-clause-begun g c = c.in-None.ensures.begins.found

pub returns-in-None-clause-answer : goal.returns-in-None-clause-answer
returns-in-None-clause-answer g c =
    let at = g.F.Outside.seen in
    let b = c.in-None.ensures.begins in
    rw (sym c.in-None.ensures.untouched)
    (page_since c.args.job.now.table.now (manner c.args.job.now.dump 0) (string_bytes c.args.job.now.page) (folder_with (string_bytes c.args.job.now.dir) [])
    (at c.args.files.now) (at c.begin_page.new.files) (at c.run_begun-outcome.new.files) _ _ _ _ _ (string_bytes c.args.job.now.page) (Ok true) b.others b.no_fault b.calls c.run_begun-outcome.ensures.runs.answer)

pub returns-in-None-clause-reads : goal.returns-in-None-clause-reads
returns-in-None-clause-reads g c =
    let at = g.F.Outside.seen in
    let b = c.in-None.ensures.begins in
    reads_since (string_bytes c.args.job.now.page) (string_bytes c.args.job.now.dir) (string_bytes c.args.job.now.page) (at c.args.files.now) (at c.begin_page.new.files) (at c.run_begun-outcome.new.files) refl b.others
    b.begun (Ok true) b.calls b.found c.run_begun-outcome.ensures.runs.reads

pub returns-in-None-clause-reports : goal.returns-in-None-clause-reports
returns-in-None-clause-reports g c =
    let at = g.F.Outside.seen in
    let b = c.in-None.ensures.begins in
    rw (sym c.in-None.ensures.untouched)
    (if_some c.run_begun-outcome.result.side
    (λ side reports. reports_since c.args.job.now.table.now c.args.job.now.ahead (manner c.args.job.now.dump 0) (string_bytes c.args.job.now.page) (folder_with (string_bytes c.args.job.now.dir) []) (at c.args.files.now) (at c.begin_page.new.files) (at c.run_begun-outcome.new.files) _ _ side _
    b.others b.no_fault (first_begun (string_bytes c.args.job.now.page) (Ok true) (at c.args.files.now) (at c.begin_page.new.files) _ b.calls) reports) c.run_begun-outcome.ensures.reports)

pub returns-in-None-clause-side : goal.returns-in-None-clause-side
returns-in-None-clause-side g c =
    let at = g.F.Outside.seen in
    let b = c.in-None.ensures.begins in
    rw (sym c.in-None.ensures.untouched)
    (side_since (string_bytes c.args.job.now.page) (string_bytes c.args.job.now.page) (Ok true) (at c.args.files.now) (at c.begin_page.new.files) (at c.run_begun-outcome.new.files) _ _ _ _ refl refl b.others b.calls b.found c.run_begun-outcome.ensures.side)

pub returns-in-None-clause-cut : goal.returns-in-None-clause-cut
returns-in-None-clause-cut g c =
    let at = g.F.Outside.seen in
    let b = c.in-None.ensures.begins in
    if_some c.run_begun-outcome.result.side
    (λ side cut. cut_since c.args.job.now.piece (string_bytes c.args.job.now.page) (string_bytes c.args.job.now.page) (Ok true) (at c.args.files.now) (at c.begin_page.new.files) (at c.run_begun-outcome.new.files) _ _ refl refl b.others b.calls b.found cut)
    c.run_begun-outcome.ensures.cut
