use Rattle.std.proofs.Common.{◌≡◌, []}
use Rattle.entity_table.specs.Prepared.{entities_above}
use Rattle.entity_table.proofs.Preparing.{With}
use Rattle.entity_table.proofs.prepared.rows_above.Given as goal

abbrev pub invariant-loop-left : goal.invariant-loop-left
invariant-loop-left l = With l.rows.items (entities_above l.before l.left l.rest) ≡ entities_above [] l.fn.count l.fn.bytes

abbrev pub decreases-loop-left : goal.decreases-loop-left
decreases-loop-left l = l.left
