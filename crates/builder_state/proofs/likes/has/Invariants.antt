use Rattle.std.proofs.Common.{◌≡◌, drop}
use Rattle.standard.specs.Formatting.{has_attribute}
use Rattle.builder_state.proofs.likes.has.Given as goal

-- none that is passed is the same
abbrev pub invariant-loop-other : goal.invariant-loop-other
invariant-loop-other l = has_attribute l.attribute l.fn.others ≡ has_attribute l.attribute (drop l.other-index l.others)
