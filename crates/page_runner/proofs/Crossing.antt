-- What crosses to the publisher's and to a watcher's thread and back, a type at a time: a search through all of its fields at once gives up.
use denote.Param.Send.{IsSend, sendable}
use Rattle.std.proofs.Crossing.{crosses}
use Rattle.html_types.proofs.text.Text.TheSendSync as text
use Rattle.text_store.proofs.ops.Ops.TheSendSync as ops
use Rattle.doc_changes.proofs.new_nodes.Fragment.TheSendSync as fragment
use Rattle.op_queue.proofs.ends.TakeEnd.TheSendSync as take_end
use Rattle.tree_watch.proofs.Crossing.{watcher_send}
use Rattle.doc_changes.specs.contracts.change.Change as Change
use Rattle.tree_watch.specs.contracts.watcher.Seen as Seen
use Rattle.page_runner.specs.contracts.watchers.Parting as Parting
use Rattle.page_runner.specs.contracts.publisher.ToPublisher as ToPublisher
use Rattle.page_runner.specs.contracts.publisher.Published as Published

seen_send : IsSend Seen.the_field.row
seen_send = search (text.the_send, sendable, crosses) depth 20

pub parting_send : IsSend Parting.the_field.row
parting_send = search (watcher_send, seen_send, sendable, crosses) depth 20

change_send : IsSend Change.the_field.row
change_send = search (ops.the_send, fragment.the_send, sendable, crosses) depth 20

pub told_send : IsSend ToPublisher.the_field.row
told_send = search (change_send, sendable, crosses) depth 20

pub published_send : IsSend Published.the_field.row
published_send = search (seen_send, take_end.the_send, told_send, sendable, crosses) depth 20
