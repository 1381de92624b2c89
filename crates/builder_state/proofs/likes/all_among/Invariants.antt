use Rattle.std.proofs.Common.{◌≡◌, drop}
use Rattle.standard.specs.Formatting.{are_among}
use Rattle.builder_state.proofs.likes.all_among.Given as goal

-- all that are passed are among them
abbrev pub invariant-loop-attribute : goal.invariant-loop-attribute
invariant-loop-attribute l = are_among l.fn.attributes l.others ≡ are_among (drop l.attribute-index l.attributes) l.others
