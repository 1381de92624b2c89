use denote.Param.Send.{sendable}
use Rattle.std.proofs.Crossing.{crosses}
use Rattle.op_queue.proofs.ends.Take.TheSendSync as take
use Rattle.page_runner.proofs.Crossing.{told_send, published_send}
use Rattle.page_runner.proofs.publisher.Publisher.start.Goals as goal

pub spawn_with-requires-send-F : goal.spawn_with-requires-send-F
spawn_with-requires-send-F g c κs within =
    let r = c.type_bounds.send-R in let s = c.type_bounds.send-Y in let y = c.type_bounds.sync-Y in
    search (take.the_send, told_send, sendable, crosses) depth 40

pub spawn_with-requires-send-T : goal.spawn_with-requires-send-T
spawn_with-requires-send-T g c κs within = search (published_send, sendable, crosses) depth 20
