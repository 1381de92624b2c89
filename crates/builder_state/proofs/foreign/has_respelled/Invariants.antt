use Rattle.std.proofs.Common.{◌≡◌, take}
use Rattle.standard.specs.Foreign.{foreign_attributes}
use Rattle.builder_state.proofs.foreign.has_respelled.Given as goal

abbrev pub invariant-loop-attribute : goal.invariant-loop-attribute
invariant-loop-attribute l = foreign_attributes l.space (take l.attribute-index l.attributes) ≡ take l.attribute-index l.attributes
