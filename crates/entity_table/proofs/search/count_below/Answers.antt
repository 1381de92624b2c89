use Rattle.std.proofs.Common.{string_bytes, rules}
use Rattle.std.proofs.lemmas.List.Sorted.{IsPartitionPoint-from_clause}
use Rattle.entity_table.specs.Order.{precedes}
use Rattle.entity_table.specs.declared.row.Row.{Row}
use Rattle.entity_table.proofs.Narrowing.{IsPartitionedBy-map, IsPartitionPoint-map}
use Rattle.entity_table.proofs.search.count_below.Goals as goal

pub returns-clause-place : goal.returns-clause-place
returns-clause-place c = λ h.
    let rows = c.args.rows.now in
    let name = λ (r : Row). string_bytes r.name in
    let below = precedes c.args.name.now in
    IsPartitionPoint-map name below rows _ c.partition_point.ensures.bound
    (IsPartitionPoint-from_clause (λ r. below (name r)) rows _ c.partition_point.ensures.partitioned (IsPartitionedBy-map name below rows h) (λ a r f called. search rules))
