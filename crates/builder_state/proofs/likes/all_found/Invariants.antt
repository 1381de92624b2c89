use Rattle.std.proofs.Common.{◌≡◌, drop}
use Rattle.builder_state.specs.Pairs.{all_found}
use Rattle.builder_state.proofs.likes.all_found.Given as goal

-- all that are passed are found
abbrev pub invariant-loop-attribute : goal.invariant-loop-attribute
invariant-loop-attribute l = all_found l.pairs l.fn.attributes ≡ all_found l.pairs (drop l.attribute-index l.attributes)
