use denote.Param.Send.{sendable}
use Rattle.std.proofs.Crossing.{crosses}
use Rattle.tree_watch.proofs.Crossing.{watcher_send}
use Rattle.page_runner.proofs.Crossing.{parting_send}
use Rattle.page_runner.proofs.watchers.post_one.Goals as goal

pub spawn_with-requires-send-F : goal.spawn_with-requires-send-F
spawn_with-requires-send-F g c κs within =
    let r = c.type_bounds.send-R in let s = c.type_bounds.send-Y in let y = c.type_bounds.sync-Y in
    search (watcher_send, sendable, crosses) depth 40

pub spawn_with-requires-send-T : goal.spawn_with-requires-send-T
spawn_with-requires-send-T g c κs within = search (parting_send, sendable, crosses) depth 20
