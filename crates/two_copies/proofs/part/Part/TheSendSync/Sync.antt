use mathlib.Core.List.{[], ◌∷◌}
use denote.RattleType.{RattleType}
use denote.Param.Send.{IsSend, IsSync, Frees, owning_send, struct_send, struct_sync, sendable}
use denote.Builtin.{RawPtr}
use denote.Struct.Struct.{exits_of}
use denote.Struct.Owning.{shape, fields, to}
use Rattle.std_alloc.proofs.SendSync.{quiet, lies, seen}
use Rattle.two_copies.specs.contracts.part.Part.{the_row, the_type}

pub sync : (T : RattleType) → IsSync T → IsSync (the_row T)
sync T y = let py : IsSync RawPtr = search sendable in
    record { shared = λ d b o κ. ((struct_sync (shape (the_type T)) (py, tt)).shared (to (the_type T) d) b o κ, ((λ q. tt), seen T y d.ptr d.value (d.round ∷ []))) }
