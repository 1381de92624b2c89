use Rattle.entity_table.proofs.Pushing.{Holds-empty}
use Rattle.entity_table.proofs.cursor.Cursor.new.Goals as goal

pub returns : goal.returns
returns c = Holds-empty c.rows.result.now c.args.table.now c.rows.ensures.rows c.rows.ensures.names
