use Rattle.std.proofs.Common.{length}
use Rattle.html_types.proofs.SumLemmas.{IsSummed}
use Rattle.html_types.proofs.attribute_sum.distinct_sum.Given as goal

abbrev pub invariant-attributes : goal.invariant-attributes
invariant-attributes l = IsSummed l.fn.attributes l.left l.names.names l.sum

abbrev pub decreases-attributes : goal.decreases-attributes
decreases-attributes l = length l.left
