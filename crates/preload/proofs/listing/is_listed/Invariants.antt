use Rattle.std.proofs.Common.{◌≡◌, drop}
use Rattle.std.specs.Str.{chars}
use Rattle.preload.specs.Names.{is_listed}
use Rattle.preload.proofs.listing.is_listed.Given as goal

-- none that is passed is the name
abbrev pub invariant-loop-other : goal.invariant-loop-other
invariant-loop-other l = is_listed (chars l.name) l.names ≡ is_listed (chars l.name) (drop l.other-index l.names)
