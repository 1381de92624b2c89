use Rattle.std.proofs.Common.{◌≡◌}
use Rattle.builder_state.specs.Pairs.{marked}
use Rattle.builder_state.proofs.likes.pair_text.Given as goal

abbrev pub invariant-loop-c : goal.invariant-loop-c
invariant-loop-c l = l.text ≡ marked l.yielded
