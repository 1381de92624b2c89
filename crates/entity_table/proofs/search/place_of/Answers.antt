use Rattle.std.proofs.Common.{arith}
use Rattle.entity_table.specs.Parts.{row_names}
use Rattle.entity_table.proofs.Finding.{partitioned, none_at, length-row_names}
use Rattle.entity_table.proofs.search.place_of.Goals as goal

pub returns-else-is_at-2-clause-none : goal.returns-else-is_at-2-clause-none
returns-else-is_at-2-clause-none c = λ order _.
    let rows = c.args.rows.now in
    let name = c.args.name.now in
    let long = length-row_names rows in
    none_at (row_names rows) name c.count_below-place.result order (c.count_below-place.ensures.place (partitioned (row_names rows) name order))
    (λ lt. c.is_at-2.ensures.other c.if-is_at-2.false (omega (arith, lt, long)))
