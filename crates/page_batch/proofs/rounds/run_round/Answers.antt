use Rattle.std.proofs.Common.{arith}
use denote.Param.{param}
use denote.Exit.{no}
use denote.Param.Send.{param_send, arg_send, sendable}
use Rattle.std.proofs.Crossing.{crosses}
use Rattle.entity_table.proofs.table.Table.TheSendSync as entities
use Rattle.page_batch.specs.contracts.slot.Slot as Slot
use Rattle.page_batch.proofs.Crossing.{slot_send, table_sync}
use Rattle.page_batch.proofs.SlotLemmas.{go-on-each, goes-at}
use Rattle.page_batch.proofs.rounds.run_round.Goals as goal

pub par_for_each_mut-requires-send-T : goal.par_for_each_mut-requires-send-T
par_for_each_mut-requires-send-T g c κs within =
    param_send 0 _ (arg_send _ no (Slot.the_row (param 1 g.row.E) g.E.InForce) (slot_send (param 1 g.row.E) g.E.InForce))

pub par_for_each_mut-requires-sync-F : goal.par_for_each_mut-requires-sync-F
par_for_each_mut-requires-sync-F g c κs within = search (entities.the_sync, table_sync, sendable, crosses) depth 20

pub returns : goal.returns
returns g c =
    go-on-each c.args.table.now c.args.slots.now c.par_for_each_mut.new.s (omega (arith, c.par_for_each_mut.auto.s)) (λ i d lt.
    let at = (c.par_for_each_mut.ensures i d lt).1 in goes-at c.args.table.now at.argument.now at.after_call.now _ _ at.argument_is at.left at.call)
