use Rattle.std.proofs.Common.{drop, string_bytes, rules}
use Rattle.std.proofs.lemmas.List.Sorted.{IsPartitionPoint-from_clause}
use Rattle.entity_table.specs.Parts.{is_up_to}
use Rattle.entity_table.specs.declared.row.Row.{Row}
use Rattle.entity_table.proofs.Narrowing.{IsPartitionedBy-map, IsPartitionPoint-map}
use Rattle.entity_table.proofs.cursor.count_up_to.Goals as goal

pub returns-clause-place : goal.returns-clause-place
returns-clause-place c = λ h.
    let rows = c.args.rows.now in
    let rest = λ (r : Row). drop c.args.depth (string_bytes r.name) in
    IsPartitionPoint-map rest (is_up_to c.args.c) rows _ c.partition_point.ensures.bound
    (IsPartitionPoint-from_clause (λ r. is_up_to c.args.c (rest r)) rows _ c.partition_point.ensures.partitioned (IsPartitionedBy-map rest (is_up_to c.args.c) rows h) (λ a r f called. search rules))
