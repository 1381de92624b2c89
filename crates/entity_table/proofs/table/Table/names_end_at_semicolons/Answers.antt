use Rattle.entity_table.proofs.Semicolons.{none_behind}
use Rattle.entity_table.proofs.table.Table.names_end_at_semicolons.Goals as goal

pub returns : goal.returns
returns c = none_behind _ c.args.self.now c.rows-rows.ensures.rows c.rows-rows.ensures.names
