use Rattle.std.proofs.Common.{◌≡◌, ◌≢◌, ◌≤◌, ◌∙◌, List, length, ap, sym, subst, IsTrue, Err}
use Rattle.std.specs.List.{All}
use Rattle.std.specs.String.{string_bytes}
use Rattle.page_turns.specs.Scripts.{folder_with}
use Rattle.outside.specs.Outside.{Rose}
use Rattle.standard.specs.Outer.{document_text}
use Rattle.tree_watch.specs.declared.watcher.Seen.{Seen}
use Rattle.page_runner.specs.Manner.{manner, result_in}
use Rattle.parse_machine.specs.Ends.{result_of}
use Rattle.page_runner.specs.Shown.{status_of}
use Rattle.page_runner.specs.declared.status.Status.TheVariants as status
use Rattle.page_runner.specs.Answers.{is_finished, is_answered, Gives}
use Rattle.page_runner.proofs.RunLemmas.{page_gave_up, page_ended, page_reads, failure_unfinished, failure_unanswered, failure_write}
use Rattle.page_turns.specs.Watched.{HasTold, of_all}
use Rattle.page_turns.proofs.WatchLemmas.{saw_last, told_leads}
use Rattle.page_runner.proofs.WatchingLemmas.{seen_last}
use Rattle.page_runner.proofs.ReportLemmas.{reports_failure, reports_end, cut_at_ok, cut_at_err}
use Rattle.page_runner.proofs.OnTwoLemmas.{taken_at_ok, taken_at_err}
use Rattle.page_runner.proofs.running.run_with.Goals as goal

pub returns-in-Err-clause-runs : goal.returns-in-Err-clause-runs
returns-in-Err-clause-runs g c =
    let at = g.F.Outside.seen in
    let how = manner c.args.job.now.dump (g.W.Watch.count c.args.watch.now) in
    let folder = folder_with (string_bytes c.args.job.now.dir) (g.P.Prefetch.given c.parse_page.new.early) in
    record {
      answer = rw c.status_for.ensures
          (page_gave_up c.args.job.now.table.now how (string_bytes c.args.job.now.page) folder
          (at c.args.files.now) (at c.parse_page.new.files) c.requires.begun _ _ _ _ c.failure_of.result (λ is. c.parse_page.ensures.write (c.in-Err.is ∙ ap Err (c.failure_of.ensures.write is))) c.parse_page.ensures.alone c.in-Err.ensures.err);
      reads = page_reads c.args.job.now.table.now how (string_bytes c.args.job.now.page) folder (at c.args.files.now) (at c.parse_page.new.files) c.requires.begun c.parse_page.ensures.alone;
      clean = λ e. absurd (failure_unfinished c.failure_of.result (subst (λ s. IsTrue (is_finished s)) c.status_for.ensures e));
    }

pub returns-in-Err-clause-reports : goal.returns-in-Err-clause-reports
returns-in-Err-clause-reports g c =
    let at = g.F.Outside.seen in
    rw c.status_for.ensures
    (reports_failure c.args.job.now.table.now c.args.job.now.ahead (manner c.args.job.now.dump (g.W.Watch.count c.args.watch.now)) (string_bytes c.args.job.now.page) (folder_with (string_bytes c.args.job.now.dir) (g.P.Prefetch.given c.parse_page.new.early)) (at c.args.files.now) (at c.parse_page.new.files) c.requires.begun _ _ _
    c.parse_page.ensures.left c.parse_page.ensures.replays c.failure_of.result c.in-Err.ensures.part)

pub returns-in-Ok-clause-runs : goal.returns-in-Ok-clause-runs
returns-in-Ok-clause-runs g c =
    let at = g.F.Outside.seen in
    let how = manner c.args.job.now.dump (g.W.Watch.count c.args.watch.now) in
    let folder = folder_with (string_bytes c.args.job.now.dir) (g.P.Prefetch.given c.parse_page.new.early) in
    let gives = c.end_shown-status.ensures.gives (g.W.Watch.count c.args.watch.now) (λ all. ap length c.as_slice-last.ensures.value ∙ (c.end-seen-in-Ok.ensures.count all ∙ c.parse_page.ensures.count)) in
    record {
      answer = page_ended c.args.job.now.table.now how (string_bytes c.args.job.now.page) folder
          (at c.args.files.now) (at c.parse_page.new.files) c.requires.begun _ _ _ _ _ _ _ _ _ c.in-Ok.outcome c.end_shown-status.result c.parse_page.ensures.faults c.parse_page.ensures.alone c.in-Ok.ensures.ok (c.doc.ensures c.in-Ok.ensures.out.going) gives;
      reads = page_reads c.args.job.now.table.now how (string_bytes c.args.job.now.page) folder (at c.args.files.now) (at c.parse_page.new.files) c.requires.begun c.parse_page.ensures.alone;
      clean = c.end_shown-status.ensures.clean;
    }

pub returns-in-Ok-clause-reports : goal.returns-in-Ok-clause-reports
returns-in-Ok-clause-reports g c =
    let at = g.F.Outside.seen in
    let gives = c.end_shown-status.ensures.gives (g.W.Watch.count c.args.watch.now) (λ all. ap length c.as_slice-last.ensures.value ∙ (c.end-seen-in-Ok.ensures.count all ∙ c.parse_page.ensures.count)) in
    reports_end c.args.job.now.table.now c.args.job.now.ahead (manner c.args.job.now.dump (g.W.Watch.count c.args.watch.now)) (string_bytes c.args.job.now.page) (folder_with (string_bytes c.args.job.now.dir) (g.P.Prefetch.given c.parse_page.new.early)) (at c.args.files.now) (at c.parse_page.new.files) c.requires.begun _ _ _
    c.parse_page.ensures.left c.parse_page.ensures.replays _ c.in-Ok.outcome (Rose (g.K.Sink.faults c.parse_page.new.out) (g.K.Sink.faults c.end_shown-status.new.out)) c.end_shown-status.result c.in-Ok.ensures.out c.in-Ok.ensures.ok
    (subst (λ d. Gives (Rose (g.K.Sink.faults c.parse_page.new.out) (g.K.Sink.faults c.end_shown-status.new.out)) (g.K.Sink.taken c.parse_page.new.out) (g.K.Sink.taken c.end_shown-status.new.out) (status_of c.in-Ok.outcome, result_in (manner c.args.job.now.dump (g.W.Watch.count c.args.watch.now)) (result_of c.in-Ok.outcome) d.tree) c.end_shown-status.result) (c.doc.ensures c.in-Ok.ensures.out.going) gives)

pub returns-in-Err-clause-messages : goal.returns-in-Err-clause-messages
returns-in-Err-clause-messages g c = rw c.status_for.ensures (taken_at_err c.failure_of.result (g.L.Counterpart.taken c.parse_page.new.lanes) c.parse_page.new.doc.journal.events (λ is. c.parse_page.ensures.write_taken (c.in-Err.is ∙ ap Err (c.failure_of.ensures.write is))) c.parse_page.ensures.more_taken)

pub returns-in-Ok-clause-messages : goal.returns-in-Ok-clause-messages
returns-in-Ok-clause-messages g c = taken_at_ok c.end_shown-status.result (g.L.Counterpart.taken c.parse_page.new.lanes) c.parse_page.new.doc.journal.events c.in-Ok.ensures.taken

pub returns-in-Err-clause-cut : goal.returns-in-Err-clause-cut
returns-in-Err-clause-cut g c = rw c.status_for.ensures (cut_at_err _ _ _ _ c.failure_of.result (λ is. c.parse_page.ensures.write_cut (c.in-Err.is ∙ ap Err (c.failure_of.ensures.write is))) c.in-Err.ensures.cut_short)

pub returns-in-Ok-clause-cut : goal.returns-in-Ok-clause-cut
returns-in-Ok-clause-cut g c = cut_at_ok _ _ _ _ c.end_shown-status.result c.in-Ok.ensures.cut

-- ---- what those who watched saw last

pub end_shown-status-requires : goal.end_shown-status-requires
end_shown-status-requires g c = λ all.
    subst (λ (l : List Seen). All (λ (s : Seen). s.text ≡ document_text c.doc.result.now.tree) l) (sym c.as_slice-last.ensures.value)
    (seen_last (g.W.Watch.watches c.args.watch.now) c.parse_page.new.doc (g.W.Watch.doc c.parse_page.new.watch) (g.W.Watch.shown c.parse_page.new.watch) _ _ _ c.end-seen-in-Ok.result.0.items (c.doc.ensures c.in-Ok.ensures.out.going) c.in-Ok.ensures.watched c.requires.unwatched
    c.parse_page.ensures.count (c.end-seen-in-Ok.ensures.count all) c.end-seen-in-Ok.ensures.seen)

pub returns-in-Err-clause-watched : goal.returns-in-Err-clause-watched
returns-in-Err-clause-watched g c = λ on.
    let s = c.parse_page.new.doc in
    let grown = g.W.Watch.doc c.parse_page.new.watch in
    let has = c.parse_page.ensures.told on in
    record {
      doc = grown.doc;
      changes = has.changes;
      were_last = record { passed = c.parse_page.ensures.told_passed on; leads = told_leads s has.changes grown.doc has.told; each = saw_last s grown has c.end-seen.result.0.items c.end-seen.ensures.seen };
      told = has.told;
      ended = λ answered. absurd (failure_unanswered c.failure_of.result (subst (λ s. IsTrue (is_answered s)) c.status_for.ensures answered));
      all = λ some. c.end-seen.ensures.count (c.failure_of.ensures.all (failure_write c.failure_of.result (subst (λ s. s ≢ status.NoMemory) c.status_for.ensures some))) ∙ c.parse_page.ensures.count;
    }

pub returns-in-Ok-clause-watched : goal.returns-in-Ok-clause-watched
returns-in-Ok-clause-watched g c = λ on.
    let s = c.parse_page.new.doc in
    let grown = g.W.Watch.doc c.parse_page.new.watch in
    let follows = c.in-Ok.ensures.watched on in
    let has : HasTold s grown = record { changes = follows.changes; count = follows.count; told = of_all follows.run follows.doc_is } in
    record {
      doc = grown.doc;
      changes = has.changes;
      were_last = record { passed = c.parse_page.ensures.told_passed on; leads = told_leads s has.changes grown.doc has.told; each = saw_last s grown has c.end-seen-in-Ok.result.0.items c.end-seen-in-Ok.ensures.seen };
      told = has.told;
      ended = λ _. (follows.run, follows.doc_is);
      all = λ some. c.end-seen-in-Ok.ensures.count (c.end_shown-status.ensures.all some) ∙ c.parse_page.ensures.count;
    }

-- no more than watched

pub returns-in-Err-clause-few : goal.returns-in-Err-clause-few
returns-in-Err-clause-few g c = subst (λ n. length c.end-seen.result.0.items ≤ n) c.parse_page.ensures.count c.end-seen.ensures.few

pub returns-in-Ok-clause-few : goal.returns-in-Ok-clause-few
returns-in-Ok-clause-few g c = subst (λ n. length c.end-seen-in-Ok.result.0.items ≤ n) c.parse_page.ensures.count c.end-seen-in-Ok.ensures.few
