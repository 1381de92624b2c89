use Rattle.std.proofs.Common.{◌≡◌, [], ◌∷◌, true, Ok, refl, ap, subst, ◌∙◌, inr}
use Rattle.std.specs.String.{string_bytes}
use Rattle.outside.specs.Outside.{Begun, begins}
use Rattle.outside.specs.declared.traits.Port.TheVariants.{Page}
use Rattle.page_turns.specs.Calls.{CallsAt}
use Rattle.page_turns.specs.Scripts.{folder_with}
use Rattle.page_runner.specs.Manner.{manner}
use Rattle.page_runner.proofs.RunLemmas.{page_faulted, page_absent, page_unbegun, page_absent_reads, found_there}
use Rattle.page_runner.proofs.running.begin_page.Goals as goal

pub returns-in-Err-clause-begins : goal.returns-in-Err-clause-begins
returns-in-Err-clause-begins g c =
    let at = g.F.Outside.seen in
    let taken = g.K.Sink.taken c.args.out.now in
    let path = string_bytes c.args.job.now.page in
    record {
      answer = λ es how folder. page_faulted es how path folder (at c.args.files.now) (at c.begin.new.self) c.begin.ensures.others _ _ _ _
          c.end_at_fault.result c.in-Err.ensures.faults_rose c.in-Err.ensures.none_left_failed c.in-Err.ensures.not_opened c.end_at_fault.ensures.gives;
      reads = λ dir. page_unbegun c.args.job.now.table.now (manner c.args.job.now.dump 0) path (folder_with dir []) (at c.args.files.now) (at c.begin.new.self) c.begin.ensures.others 0 0 taken taken
          _ c.as_str.ensures.value c.in-Err.ensures.none_left_failed (inr c.in-Err.ensures.faults_rose) c.begin.ensures.begun c.begin.result c.begin.ensures.calls;
      closed = c.in-Err.ensures.not_opened;
    }

pub returns-in-Ok-false-clause-begins : goal.returns-in-Ok-false-clause-begins
returns-in-Ok-false-clause-begins g c =
    let at = g.F.Outside.seen in
    let taken = g.K.Sink.taken c.args.out.now in
    let path = string_bytes c.args.job.now.page in
    record {
      answer = λ es how folder. page_absent es how path folder (at c.args.files.now) (at c.begin.new.self) c.begin.ensures.others _ _ _ _
          _ _ c.in-Ok-false.field-0-test c.as_str.ensures.value c.in-Ok-false.ensures.absences_rose c.in-Ok-false.ensures.absent c.in-Ok-false.ensures.no_fault c.in-Ok-false.ensures.opened refl;
      reads = λ dir. page_absent_reads c.args.job.now.table.now (manner c.args.job.now.dump 0) path (folder_with dir []) (at c.args.files.now) (at c.begin.new.self) c.begin.ensures.others 0 0 taken taken
          _ _ c.in-Ok-false.field-0-test c.as_str.ensures.value c.in-Ok-false.ensures.none_left c.in-Ok-false.ensures.absences_rose c.begin.ensures.begun c.begin.result c.begin.ensures.calls;
      closed = c.in-Ok-false.ensures.opened ∙ c.in-Ok-false.field-0-test;
    }

pub returns-in-Ok-true-clause-begins : goal.returns-in-Ok-true-clause-begins
returns-in-Ok-true-clause-begins g c =
    let at = g.F.Outside.seen in
    let before = at c.args.files.now in
    let after = at c.begin.new.self in
    let path = string_bytes c.args.job.now.page in
    let is : c.begin.result ≡ Ok true = c.in-Ok-true.is ∙ ap Ok c.in-Ok-true.field-0-test in
    record {
      others = c.begin.ensures.others;
      no_fault = c.in-Ok-true.ensures.no_fault;
      begun = subst (λ p. Begun (before.begun Page) (after.begun Page) (p ∷ [])) c.as_str.ensures.value c.begin.ensures.begun;
      calls = subst (λ a. CallsAt Page before after (begins path a ∷ [])) is (subst (λ p. CallsAt Page before after (begins p c.begin.result ∷ [])) c.as_str.ensures.value c.begin.ensures.calls);
      found = found_there _ before after _ path c.in-Ok-true.field-0-test c.as_str.ensures.value c.in-Ok-true.ensures.found c.in-Ok-true.ensures.opened c.begin.ensures.others;
    }
