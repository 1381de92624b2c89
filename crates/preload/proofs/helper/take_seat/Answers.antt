use denote.Param.Send.{sendable}
use Rattle.std.proofs.Crossing.{crosses}
use Rattle.preload.proofs.Crossing.{lanes_send, ends_send}
use Rattle.preload.proofs.helper.take_seat.Goals as goal

pub spawn_with-requires-send-F : goal.spawn_with-requires-send-F
spawn_with-requires-send-F g c κs within =
    let r = c.type_bounds.send-R in let f = c.type_bounds.send-F in
    search (lanes_send, sendable, crosses) depth 40

pub spawn_with-requires-send-T : goal.spawn_with-requires-send-T
spawn_with-requires-send-T g c κs within =
    let f = c.type_bounds.send-F in
    search (lanes_send, ends_send, sendable, crosses) depth 40
