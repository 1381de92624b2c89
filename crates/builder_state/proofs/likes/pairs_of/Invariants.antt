use Rattle.std.proofs.Common.{◌≡◌, take}
use Rattle.builder_state.specs.Pairs.{pairs_of}
use Rattle.builder_state.proofs.likes.pairs_of.Given as goal

abbrev pub invariant-loop-attribute : goal.invariant-loop-attribute
invariant-loop-attribute l = l.pairs ≡ pairs_of (take l.attribute-index l.attributes)
