use Rattle.entity_table.specs.Held.{Holds}
use Rattle.entity_table.proofs.cursor.Cursor.over.Given as goal

abbrev pub invariant-loop-c : goal.invariant-loop-c
invariant-loop-c l = Holds l.table l.cursor l.yielded
