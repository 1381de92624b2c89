use Rattle.std.proofs.Common.{◌∙◌}
use Rattle.page_turns.proofs.LineLemmas.{on_err}
use Rattle.page_turns.proofs.WatchLemmas.{log_on, ran_did, did_follow, ran_in_part, ran_read}
use Rattle.page_turns.proofs.page.run_on.Goals as goal

pub returns-in_err-did-clause-err : goal.returns-in_err-did-clause-err
returns-in_err-did-clause-err g c = on_err _ _ (ran_in_part _ _ _ _ c.in_ok-do_and_write.ensures.ok)

pub returns-in_err-did-clause-stays : goal.returns-in_err-did-clause-stays
returns-in_err-did-clause-stays g c = on_err _ _ (ran_read _ _ _ _ c.in_ok-do_and_write.ensures.ok)

pub returns-clause-watched : goal.returns-clause-watched
returns-clause-watched g c = λ on. λ replayed follows.
    did_follow c.args.doc.now c.do_and_write.new.doc c.new-log.result c.do_and_write.new.log c.take.result.items
    (log_on _ _ c.new-log.ensures (c.wants.ensures ∙ on)) c.in_ok-do_and_write.ensures.logged c.take.ensures.taken _ _ _ _
    (ran_did _ _ _ _ c.in_ok-do_and_write.ensures.ok) replayed c.journal-journal.ensures.replayed (c.in_ok-did.ensures.doc on) (c.in_ok-did.ensures.shown on) follows
