use Rattle.std.proofs.Common.{◌≡◌, drop}
use Rattle.op_exec.specs.Ids.{listed}
use Rattle.op_exec.proofs.bound.listed.Given as goal

-- none of the realms that are passed names it
abbrev pub invariant-loop-realm : goal.invariant-loop-realm
invariant-loop-realm l = record { same : listed l.realms l.id ≡ listed (drop l.realm-index l.realms) l.id }
