use Rattle.std.proofs.Common.{◌≡◌, take}
use Rattle.std.specs.Prelude.{flat_map}
use Rattle.preload.specs.Names.{wanted_in, firsts}
use Rattle.preload.proofs.listing.add_ops.Given as goal

-- they are those of the operations that are passed, behind what they were
abbrev pub invariant-loop-index : goal.invariant-loop-index
invariant-loop-index l = l.names.items ≡ firsts l.initial.names.items (flat_map wanted_in (take l.index l.list))
