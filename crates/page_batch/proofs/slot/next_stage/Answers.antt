use Rattle.std.proofs.Common.{refl, sym, subst}
use Rattle.std.specs.Prelude.{IfOk}
use Rattle.page_batch.specs.Slots.{NextOf}
use Rattle.page_batch.proofs.StageLemmas.{next-first, next-going, next-same}
use Rattle.page_batch.proofs.slot.next_stage.Goals as goal

pub returns-in_ok-pair-in-Unread : goal.returns-in_ok-pair-in-Unread
returns-in_ok-pair-in-Unread g c =
    subst (λ s. IfOk c.run_stage.result (NextOf g.E.InForce.entities c.args.table.now s)) (sym c.in-Unread.is)
    (next-first g.E.InForce.entities c.args.table.now c.run_stage.result c.in-Unread.page c.in_ok-pair-in-Unread.pair c.new.result.items c.in_ok-pair-in-Unread.ensures c.new.ensures.items c.run_stage.ensures.stays c.run_stage.ensures.known c.run_stage.ensures.awaits)

pub returns-in-Waits : goal.returns-in-Waits
returns-in-Waits g c =
    subst (λ s. IfOk c.run_going.result (NextOf g.E.InForce.entities c.args.table.now s)) (sym c.in-Waits.is)
    (next-going g.E.InForce.entities c.args.table.now c.run_going.result c.in-Waits.going c.run_going.ensures.stays c.run_going.ensures.known c.run_going.ensures.awaits)

pub returns-in-Over : goal.returns-in-Over
returns-in-Over g c = next-same g.E.InForce.entities c.args.table.now c.args.stage _ c.in-Over.is refl

pub returns-in-Spent : goal.returns-in-Spent
returns-in-Spent g c = next-same g.E.InForce.entities c.args.table.now c.args.stage _ c.in-Spent.is refl
