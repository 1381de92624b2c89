use Rattle.std.proofs.Common.{◌≡◌, [], take}
use Rattle.std.specs.Prelude.{flat_map}
use Rattle.core_definitions.specs.Batches.{Batch}
use Rattle.preload.specs.Names.{wanted_in, firsts}
use Rattle.preload.proofs.listing.names.Given as goal

-- they are those of the batches that are passed
abbrev pub invariant-loop-k : goal.invariant-loop-k
invariant-loop-k g l = l.names.items ≡ firsts [] (flat_map wanted_in (flat_map (λ (b : Batch). b.ops) (take l.k l.batches)))
