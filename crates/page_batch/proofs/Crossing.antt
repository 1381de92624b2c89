-- What a page of a batch holds crosses to a thread, a type at a time.
use denote.RattleType.{RattleType}
use denote.Param.Send.{IsSend, IsSync, sendable}
use Rattle.std.proofs.Crossing.{crosses}
use Rattle.std.proofs.MapsCrossing.{BTreeMap-sync, String-sync}
use Rattle.core_steps.specs.contracts.fetch.Fetch as Fetch
use Rattle.core_pair.proofs.Crossing.{pair_send}
use Rattle.html_types.proofs.text.Text.TheSendSync as text
use Rattle.speculation.specs.declared.in_force.InForce as InForce
use Rattle.page_batch.specs.contracts.read.PageBytes as PageBytes
use Rattle.page_batch.specs.contracts.read.PageFile as PageFile
use Rattle.page_batch.specs.contracts.going.Part as Part
use Rattle.page_batch.specs.contracts.going.Going as Going
use Rattle.page_batch.specs.contracts.slot.Stage as Stage
use Rattle.page_batch.specs.contracts.slot.Slot as Slot
use Rattle.page_batch.specs.contracts.table.ScriptTable as ScriptTable

bytes_send : IsSend PageBytes.the_field.row
bytes_send = search (sendable, crosses) depth 20

file_send : IsSend PageFile.the_field.row
file_send = search (bytes_send, sendable, crosses) depth 20

part_send : IsSend Part.the_field.row
part_send = search (sendable, crosses) depth 20

module _ (E : RattleType) (g : InForce.Ghosts E.Denot) where
  going_send : IsSend (Going.the_field E g).row
  going_send = let p = pair_send E g in search (text.the_send, sendable, crosses) depth 20

  stage_send : IsSend (Stage.the_field E g).row
  stage_send = let go = going_send in search (bytes_send, part_send, sendable, crosses) depth 20

  pub slot_send : IsSend (Slot.the_field E g).row
  slot_send = let s = stage_send in search (file_send, sendable, crosses) depth 20

-- ---- the table, which all threads read

fetch_sync : IsSync Fetch.the_field.row
fetch_sync = search (sendable, crosses) depth 20

pub table_sync : IsSync ScriptTable.the_field.row
table_sync = search (fetch_sync, BTreeMap-sync, String-sync, sendable, crosses) depth 20
