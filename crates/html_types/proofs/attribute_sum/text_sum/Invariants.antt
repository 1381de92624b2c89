use Rattle.std.proofs.Common.{◌≡◌}
use Rattle.html_types.specs.Sums.{text_sum}
use Rattle.html_types.proofs.attribute_sum.text_sum.Given as goal

abbrev pub invariant-loop-c : goal.invariant-loop-c
invariant-loop-c l = l.sum ≡ text_sum l.start l.yielded
