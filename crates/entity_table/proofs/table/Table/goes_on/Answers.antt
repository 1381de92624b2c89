use Rattle.std.proofs.Common.{sym}
use Rattle.std.proofs.lemmas.Bool.{ltb-true}
use Rattle.entity_table.proofs.Going.{begins_some-row}
use Rattle.entity_table.proofs.table.Table.goes_on.Goals as goal

pub returns-in-Some : goal.returns-in-Some
returns-in-Some c = λ is.
    begins_some-row c.rows-rows.result.now c.args.self.now c.args.text.now c.row_of_front.result c.args.c c.in-Some.row.now c.rows-rows.ensures.rows c.rows-rows.ensures.names
    (ltb-true _ _ (sym c.in-Some.ensures.lookup.0)) c.in-Some.ensures.lookup.1 (c.goes_on.ensures is)
