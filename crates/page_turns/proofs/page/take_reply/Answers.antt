use Rattle.std.specs.Prelude.{Some}
use Rattle.page_turns.specs.Messages.{TakesLast}
use Rattle.page_turns.proofs.LineLemmas.{on_err}
use Rattle.page_turns.proofs.AlongLemmas.{stays_same}
use Rattle.page_turns.proofs.page.take_reply.Goals as goal

pub returns-in_err-reply-clause-stays : goal.returns-in_err-reply-clause-stays
returns-in_err-reply-clause-stays g c = on_err _ _ (stays_same c.args.doc.now)

pub returns-clause-last : goal.returns-clause-last
returns-clause-last g c =
    on_err _ (TakesLast (g.L.Counterpart.taken c.args.lanes.now) (g.L.Counterpart.taken c.take.new.self)) (Some c.in_ok-reply.reply.said, c.in_ok-reply.ensures.taken)
