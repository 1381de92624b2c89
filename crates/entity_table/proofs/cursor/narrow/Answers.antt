use Rattle.std.proofs.Common.{arith}
use Rattle.entity_table.proofs.Narrowing.{partitioned_below, partitioned_up_to, IsPart-narrowed, IsPart-whole, IsPart-none}
use Rattle.entity_table.proofs.cursor.narrow.Goals as goal

pub returns-then-below-up_to-clause-part : goal.returns-then-below-up_to-clause-part
returns-then-below-up_to-clause-part c = λ text order deep part.
    let rows = c.args.rows.now in
    let within = c.in-Some.ensures.lookup.0.2 in
    let at_below = rw within at c.count_below-below.ensures.place in
    let at_up_to = rw within at c.count_up_to-up_to.ensures.place in
    let below = partitioned_below rows text c.args.part.low c.args.part.high c.args.depth c.args.c order deep part in
    let up_to = partitioned_up_to rows text c.args.part.low c.args.part.high c.args.depth c.args.c order deep part in
    IsPart-narrowed rows text c.args.part.low c.args.part.high c.args.depth c.args.c _ _ deep part
    (at_below below) (at_up_to up_to)
    c.if-below-up_to.true (omega (arith, c.in-Some.ensures.lookup.0.3))

pub returns-else-below-up_to-clause-part : goal.returns-else-below-up_to-clause-part
returns-else-below-up_to-clause-part c = λ text order deep part.
    let rows = c.args.rows.now in
    let within = c.in-Some.ensures.lookup.0.2 in
    let at_below = rw within at c.count_below-below.ensures.place in
    let at_up_to = rw within at c.count_up_to-up_to.ensures.place in
    let below = partitioned_below rows text c.args.part.low c.args.part.high c.args.depth c.args.c order deep part in
    let up_to = partitioned_up_to rows text c.args.part.low c.args.part.high c.args.depth c.args.c order deep part in
    IsPart-none rows text c.args.part.low c.args.part.high c.args.depth c.args.c _ _ deep part
    (at_below below) (at_up_to up_to)
    c.if-below-up_to.false

pub returns-then-all_go_on-clause-part : goal.returns-then-all_go_on-clause-part
returns-then-all_go_on-clause-part c = λ text order deep part.
    let rows = c.args.rows.now in
    let low = c.args.part.low in
    let high = c.args.part.high in
    let within = c.in-Some.ensures.lookup.0.2 in
    let found = rw within at c.all_go_on.ensures in
    IsPart-whole rows text low high c.args.depth c.args.c deep part
    (found.below c.if-all_go_on.true (partitioned_below rows text low high c.args.depth c.args.c order deep part))
    (found.up_to c.if-all_go_on.true (partitioned_up_to rows text low high c.args.depth c.args.c order deep part))
    (found.some c.if-all_go_on.true)
