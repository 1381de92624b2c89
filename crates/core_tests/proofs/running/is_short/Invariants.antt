use Rattle.std.proofs.Common.{◌≡◌, ◌+◌, ◌≤◌, length}
use Rattle.core_definitions.specs.Core.{joined}
use Rattle.core_tests.proofs.running.is_short.Given as goal

abbrev pub invariant-pieces : goal.invariant-pieces
invariant-pieces l = (length (joined l.fn.pieces) ≡ l.total + length (joined l.rest)) × (l.total ≤ 20000)

abbrev pub decreases-pieces : goal.decreases-pieces
decreases-pieces l = length l.rest
