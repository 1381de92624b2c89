use denote.Param.Send.{sendable}
use Rattle.std.proofs.Crossing.{crosses}
use Rattle.entity_table.proofs.table.Table.TheSendSync as table
use Rattle.parser_thread.proofs.Crossing.{lanes_send, parting_send}
use Rattle.parser_thread.proofs.seat.take_seat.Goals as goal

pub spawn_with-requires-send-F : goal.spawn_with-requires-send-F
spawn_with-requires-send-F g c κs within =
    let r = c.type_bounds.send-R in let s = c.type_bounds.send-G in let y = c.type_bounds.sync-G in
    search (table.the_send, lanes_send, sendable, crosses) depth 40

pub spawn_with-requires-send-T : goal.spawn_with-requires-send-T
spawn_with-requires-send-T g c κs within = search (parting_send, sendable, crosses) depth 20
