-- What a pair holds crosses to a thread, a type at a time.
use denote.RattleType.{RattleType}
use denote.Param.Send.{IsSend, sendable}
use Rattle.std.proofs.Crossing.{crosses}
use Rattle.std.proofs.MapsCrossing.{BTreeMap-send, String-send}
use Rattle.parse_machine.proofs.machine.Machine.TheSendSync as machine
use Rattle.text_store.proofs.ops.Ops.TheSendSync as ops
use Rattle.page_pieces.proofs.shared_text.SharedText.TheSendSync as text
use Rattle.page_pieces.proofs.piece.Piece.TheSendSync as piece
use Rattle.speculation.proofs.batch.Halt.TheSendSync as halt
use Rattle.speculation.proofs.boxed.BoxedMachine.TheSendSync as boxed
use Rattle.speculation.proofs.request.Request.TheSendSync as request
use Rattle.entity_table.proofs.table.Table.TheSendSync as table
use Rattle.write_parser.proofs.writer.Writer.TheSendSync as writer
use Rattle.page_pieces.proofs.ledger.Ledger.TheSendSync as ledger
use Rattle.html_types.proofs.text.Text.TheSendSync as short_text
use Rattle.core_definitions.specs.contracts.event.Event as Event
use Rattle.core_steps.specs.contracts.fetch.Fetch as Fetch
use Rattle.core_steps.specs.contracts.fetch.FetchedFile as FetchedFile
use Rattle.core_steps.specs.contracts.journal.Journal as Journal
use Rattle.core_steps.specs.contracts.stage.Stage as Stage
use Rattle.core_steps.specs.contracts.doc_side.DocSide as DocSide
use Rattle.core_steps.specs.contracts.side.Side as Side
use Rattle.core_steps.specs.contracts.work_side.WorkSide as WorkSide
use Rattle.core_pair.specs.contracts.scripts.Scripts as Scripts
use Rattle.speculation.specs.contracts.batch.Batch as Batch
use Rattle.speculation.specs.contracts.batch.Batches as Batches
use Rattle.speculation.specs.contracts.checkpoint.Checkpoint as Checkpoint
use Rattle.speculation.specs.contracts.reply.Said as Said
use Rattle.speculation.specs.contracts.reply.Reply as Reply
use Rattle.speculation.specs.declared.in_force.InForce as InForce
use Rattle.core_pair.specs.contracts.both.Both as Both
use Rattle.core_pair.specs.contracts.pair.Pair as Pair

checkpoint_send : IsSend Checkpoint.the_field.row
checkpoint_send = search (boxed.the_send, sendable, crosses) depth 20

batch_send : IsSend Batch.the_field.row
batch_send = search (text.the_send, ops.the_send, halt.the_field_send, checkpoint_send, sendable, crosses) depth 20

batches_send : IsSend Batches.the_field.row
batches_send = search (batch_send, sendable, crosses) depth 20

said_send : IsSend Said.the_field.row
said_send = search (checkpoint_send, piece.the_send, batches_send, sendable, crosses) depth 20

fetch_send : IsSend Fetch.the_field.row
fetch_send = search (sendable, crosses) depth 20

file_send : IsSend FetchedFile.the_field.row
file_send = search (short_text.the_send, fetch_send, sendable, crosses) depth 20

event_send : IsSend Event.the_field.row
event_send = search (short_text.the_send, sendable, crosses) depth 20

journal_send : IsSend Journal.the_field.row
journal_send = search (text.the_send, fetch_send, file_send, event_send, BTreeMap-send, String-send, sendable, crosses) depth 20

stage_send : IsSend Stage.the_field.row
stage_send = search (short_text.the_send, machine.the_send, sendable, crosses) depth 20

side_send : IsSend Side.the_field.row
side_send = search (writer.the_send, ledger.the_send, machine.the_send, table.the_send, batches_send, journal_send, stage_send, sendable, crosses) depth 20

doc_side_send : IsSend DocSide.the_field.row
doc_side_send = search (side_send, sendable, crosses) depth 20

work_side_send : IsSend WorkSide.the_field.row
work_side_send = search (boxed.the_send, request.the_send, sendable, crosses) depth 20

scripts_send : IsSend Scripts.the_field.row
scripts_send = search (file_send, sendable, crosses) depth 20

module _ (E : RattleType) (g : InForce.Ghosts E.Denot) where
  reply_send : IsSend (Reply.the_field E g).row
  reply_send = search (said_send, sendable, crosses) depth 20

  both_send : IsSend (Both.the_field E g).row
  both_send = let r = reply_send in search (table.the_send, doc_side_send, request.the_send, work_side_send, scripts_send, sendable, crosses) depth 20

  pub pair_send : IsSend (Pair.the_field E g).row
  pair_send = let b = both_send in search (sendable, crosses) depth 20
