-- The calls that an outside in memory has noted.
use Rattle.std.specs.Prelude.{map, Some, None, if◌then◌else◌}
use Rattle.std.specs.String.{string_bytes}
use Rattle.outside.specs.Outside.{Call, begins, reads, Calls}
use Rattle.outside.specs.declared.traits.Port.{Port}
use Rattle.outside.specs.declared.traits.Port.TheVariants.{Entities, List, Page, Script}
use Rattle.outside.specs.declared.calls.CallMade.{CallMade}
use Rattle.outside.specs.declared.calls.CallMade.TheVariants.{Begin, Read}
use Rattle.outside.specs.declared.calls.PortCalls.{PortCalls}
use Rattle.outside.specs.declared.calls.CallLog.{CallLog}

abbrev pub call_of : CallMade → Call
call_of (Begin path answer) = begins (string_bytes path) answer
call_of (Read most answer) = reads most answer

-- all of them, or none once memory ran out
abbrev pub told_calls : PortCalls → Calls
told_calls calls = if calls.is_whole then Some (map call_of calls.made.items) else None

abbrev pub calls_at : CallLog → Port → Calls
calls_at log Entities = told_calls log.entities
calls_at log List = told_calls log.list
calls_at log Page = told_calls log.page
calls_at log Script = told_calls log.script
