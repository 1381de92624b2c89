-- What crosses to a fetcher's thread and back, a type at a time: a search through all of its fields at once gives up.
use denote.RattleType.{RattleType}
use denote.Param.Send.{IsSend, sendable}
use Rattle.std.proofs.Crossing.{crosses}
use Rattle.html_types.proofs.text.Text.TheSendSync as text
use Rattle.op_queue.proofs.ends.Put.TheSendSync as put
use Rattle.op_queue.proofs.ends.Take.TheSendSync as take
use Rattle.op_queue.proofs.ends.PutEnd.TheSendSync as put_end
use Rattle.op_queue.proofs.ends.TakeEnd.TheSendSync as take_end
use Rattle.preload.specs.contracts.name.ScriptName as ScriptName
use Rattle.preload.specs.contracts.messages.Wanted as Wanted
use Rattle.preload.specs.contracts.messages.Fetched as Fetched
use Rattle.preload.specs.contracts.fetch.FetchEnds as FetchEnds
use Rattle.preload.specs.contracts.helper.FetcherLanes as FetcherLanes

name_send : IsSend ScriptName.the_field.row
name_send = search (text.the_send, sendable, crosses) depth 20

wanted_send : IsSend Wanted.the_field.row
wanted_send = search (name_send, sendable, crosses) depth 20

fetched_send : IsSend Fetched.the_field.row
fetched_send = search (sendable, crosses) depth 20

pub lanes_send : IsSend FetcherLanes.the_field.row
lanes_send = search (take.the_send, put.the_send, wanted_send, fetched_send, sendable, crosses) depth 20

pub ends_send : IsSend FetchEnds.the_field.row
ends_send = search (take_end.the_send, put_end.the_send, wanted_send, fetched_send, sendable, crosses) depth 20
