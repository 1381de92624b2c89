-- What crosses to the parser's thread and back, a type at a time: a search through all of its fields at once gives up.
use denote.RattleType.{RattleType}
use denote.Param.Send.{IsSend, sendable}
use Rattle.std.proofs.Crossing.{crosses}
use Rattle.speculation.proofs.boxed.BoxedMachine.TheSendSync as boxed
use Rattle.text_store.proofs.ops.Ops.TheSendSync as ops
use Rattle.page_pieces.proofs.shared_text.SharedText.TheSendSync as text
use Rattle.page_pieces.proofs.piece.Piece.TheSendSync as piece
use Rattle.speculation.proofs.batch.Halt.TheSendSync as halt
use Rattle.speculation.proofs.request.Request.TheSendSync as request
use Rattle.op_queue.proofs.ends.Put.TheSendSync as put
use Rattle.op_queue.proofs.ends.Take.TheSendSync as take
use Rattle.op_queue.proofs.ends.PutEnd.TheSendSync as put_end
use Rattle.op_queue.proofs.ends.TakeEnd.TheSendSync as take_end
use Rattle.speculation.specs.contracts.batch.Batch as Batch
use Rattle.speculation.specs.contracts.batch.Batches as Batches
use Rattle.speculation.specs.contracts.checkpoint.Checkpoint as Checkpoint
use Rattle.speculation.specs.contracts.reply.Said as Said
use Rattle.speculation.specs.contracts.reply.Reply as Reply
use Rattle.speculation.specs.declared.in_force.InForce as InForce
use Rattle.parser_thread.specs.contracts.messages.FromParser as FromParser
use Rattle.parser_thread.specs.contracts.messages.ToParser as ToParser
use Rattle.parser_thread.specs.contracts.side.Ends as Ends
use Rattle.parser_thread.specs.contracts.seat.ParserLanes as ParserLanes
use Rattle.parser_thread.specs.contracts.seat.Parting as Parting

checkpoint_send : IsSend Checkpoint.the_field.row
checkpoint_send = search (boxed.the_send, sendable, crosses) depth 20

batch_send : IsSend Batch.the_field.row
batch_send = search (text.the_send, ops.the_send, halt.the_field_send, checkpoint_send, sendable, crosses) depth 20

batches_send : IsSend Batches.the_field.row
batches_send = search (batch_send, sendable, crosses) depth 20

said_send : IsSend Said.the_field.row
said_send = search (checkpoint_send, piece.the_send, batches_send, sendable, crosses) depth 20

to_parser_send : IsSend ToParser.the_field.row
to_parser_send = search (request.the_send, sendable, crosses) depth 20

module _ (E : RattleType) (g : InForce.Ghosts E.Denot) where
  reply_send : IsSend (Reply.the_field E g).row
  reply_send = search (said_send, sendable, crosses) depth 20

  from_parser_send : IsSend (FromParser.the_field E g).row
  from_parser_send = let r = reply_send in search (sendable, crosses) depth 20

  pub lanes_send : IsSend (ParserLanes.the_field E g).row
  lanes_send = let f = from_parser_send in search (take.the_send, put.the_send, to_parser_send, sendable, crosses) depth 20

  ends_send : IsSend (Ends.the_field E g).row
  ends_send = let f = from_parser_send in search (take_end.the_send, put_end.the_send, to_parser_send, sendable, crosses) depth 20

  pub parting_send : IsSend (Parting.the_field E g).row
  parting_send = let l = lanes_send in let e = ends_send in search (sendable, crosses) depth 20
