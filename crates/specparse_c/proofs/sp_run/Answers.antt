use Rattle.specparse_c.specs.declared.failure.Failure.TheVariants as failure
use Rattle.specparse_c.proofs.RunLemmas.{run-done, run-bad, run-limit, run-lacks, run-failed, run-statuses, run-empty, run-keeps}
use Rattle.specparse_c.proofs.sp_run.Goals as goal

pub returns-clause-done : goal.returns-clause-done
returns-clause-done c = run-done c.args.entities.now c.args.page.now c.args.bytes.now c.args.scripts.now c.args.flags _ _ _ _ _ c.ran-printed.ensures.ran c.give_run.ensures

pub returns-clause-bad_utf8 : goal.returns-clause-bad_utf8
returns-clause-bad_utf8 c = run-bad c.args.entities.now c.args.page.now c.args.bytes.now c.args.scripts.now c.args.flags _ _ _ _ _ c.ran-printed.ensures.ran c.ran-printed.ensures.failure c.give_run.ensures

pub returns-clause-limit : goal.returns-clause-limit
returns-clause-limit c = run-limit c.args.entities.now c.args.page.now c.args.bytes.now c.args.scripts.now c.args.flags _ _ _ _ _ c.ran-printed.ensures.ran c.ran-printed.ensures.failure c.give_run.ensures

pub returns-clause-no_room : goal.returns-clause-no_room
returns-clause-no_room c = run-lacks c.args.entities.now c.args.page.now c.args.bytes.now c.args.scripts.now c.args.flags _ _ _ _ _ c.ran-printed.ensures.ran c.give_run.ensures

pub returns-clause-no_words : goal.returns-clause-no_words
returns-clause-no_words c =
    run-failed c.args.entities.now c.args.page.now c.args.bytes.now c.args.scripts.now c.args.flags failure.Context _ _ _ _ _ (λ e. absurd (cc e)) (λ e. absurd (cc e)) c.ran-printed.ensures.failure c.give_run.ensures

pub returns-clause-no_entities : goal.returns-clause-no_entities
returns-clause-no_entities c =
    run-failed c.args.entities.now c.args.page.now c.args.bytes.now c.args.scripts.now c.args.flags failure.Entities _ _ _ _ _ (λ e. absurd (cc e)) (λ e. absurd (cc e)) c.ran-printed.ensures.failure c.give_run.ensures

pub returns-clause-statuses : goal.returns-clause-statuses
returns-clause-statuses c = run-statuses _ _ _ _ _ c.give_run.ensures

pub returns-clause-no_text : goal.returns-clause-no_text
returns-clause-no_text c = run-empty _ _ _ _ _ c.give_run.ensures

pub returns-clause-kept : goal.returns-clause-kept
returns-clause-kept c = run-keeps _ _ _ _ _ c.give_run.ensures
