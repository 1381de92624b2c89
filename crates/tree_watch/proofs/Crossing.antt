-- A watcher crosses to its thread: a search through all of its fields at once gives up.
use denote.Param.Send.{IsSend, IsSync, view_send, sendable}
use Rattle.std.specs.contracts.alloc.Global as Heap
use Rattle.std.specs.contracts.impls.GlobalAllocator.TheImpl.{ghosts as heap_ghosts}
use Rattle.std.proofs.Crossing.{crosses, send, sync, frees}
use Rattle.op_exec.proofs.doc.Doc.TheSendSync as doc
use Rattle.two_copies.specs.contracts.reader.Reader as Reader
use Rattle.two_copies.proofs.reader.Reader.TheSendSync as reader
use Rattle.tree_watch.specs.contracts.rule.Published as Published
use Rattle.tree_watch.specs.contracts.rule.PublishedProtocolShownView.TheImpl.{ghosts}
use Rattle.tree_watch.specs.contracts.rule.View as View
use Rattle.tree_watch.specs.contracts.shown.Shown as Shown
use Rattle.tree_watch.specs.contracts.watcher.Watcher as Watcher

shown_sync : IsSync Shown.the_row
shown_sync = search (doc.the_sync, sendable, crosses) depth 20

reads : IsSend (Reader.the_field Shown.the_row View.the_row Published.the_row Heap.the_row ghosts heap_ghosts).row
reads = reader.the_field_send Shown.the_row View.the_row Published.the_row Heap.the_row ghosts heap_ghosts send shown_sync sync frees

inside : IsSend Watcher.TheInside.the_row
inside = search (reads, sendable, crosses) depth 20

pub watcher_send : IsSend Watcher.the_field.row
watcher_send = view_send Watcher.TheInside.the_row _ _ _ _ inside
