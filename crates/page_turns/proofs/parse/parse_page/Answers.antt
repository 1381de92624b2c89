use Rattle.page_turns.proofs.LineLemmas.{if_ok, err_weaker}
use Rattle.page_turns.proofs.EndLemmas.{left_alone, left_behind, gave_up, gave_part, ran_out}
use Rattle.page_turns.proofs.ReplayLemmas.{replays-to}
use Rattle.page_turns.proofs.WatchLemmas.{told_at, told_passed}
use Rattle.page_turns.proofs.parse.parse_page.Goals as goal

pub returns-clause-ok : goal.returns-clause-ok
returns-clause-ok g c = if_ok _ (λ o out. ran_out _ _ _ _ _ _ _ _ o _ c.journal-journal.ensures.replayed c.take_turns-ended.ensures.goes out) c.take_turns-ended.ensures.ok

pub returns-clause-err : goal.returns-clause-err
returns-clause-err g c = err_weaker _ _ _ (λ gives. gave_up _ _ _ _ _ _ _ _ c.journal-journal.ensures.replayed gives) c.take_turns-ended.ensures.err

pub returns-clause-part : goal.returns-clause-part
returns-clause-part g c = err_weaker _ _ _ (λ gives. gave_part _ _ _ _ _ _ _ _ c.journal-journal.ensures.replayed gives) c.take_turns-ended.ensures.err

pub returns-clause-replays : goal.returns-clause-replays
returns-clause-replays g c =
    let left = left_behind _ _ _ _ _ _ _ _ _ c.take_turns-ended.ensures.ok c.take_turns-ended.ensures.err in
    replays-to _ _ _ left.entities left.ahead_is c.journal-journal.ensures.replayed

pub returns-clause-left : goal.returns-clause-left
returns-clause-left g c = left_behind _ _ _ _ _ _ _ _ _ c.take_turns-ended.ensures.ok c.take_turns-ended.ensures.err

pub returns-clause-alone : goal.returns-clause-alone
returns-clause-alone g c = left_alone _ _ _ _ _ _ _ _ _ c.take_turns-ended.ensures.ok c.take_turns-ended.ensures.err

pub returns-clause-told : goal.returns-clause-told
returns-clause-told g c = λ on.
    told_at c.take_turns-ended.result c.take_turns-ended.new.doc (g.W.Watch.doc c.take_turns-ended.new.watch) (g.W.Watch.shown c.take_turns-ended.new.watch)
    (c.take_turns-ended.ensures.watched on) (c.take_turns-ended.ensures.told on)

pub returns-clause-told_passed : goal.returns-clause-told_passed
returns-clause-told_passed g c = λ on.
    told_passed c.take_turns-ended.new.doc (g.W.Watch.doc c.take_turns-ended.new.watch) c.journal-journal.ensures.replayed
    (told_at c.take_turns-ended.result c.take_turns-ended.new.doc (g.W.Watch.doc c.take_turns-ended.new.watch) (g.W.Watch.shown c.take_turns-ended.new.watch)
    (c.take_turns-ended.ensures.watched on) (c.take_turns-ended.ensures.told on))
