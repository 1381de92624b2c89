use Rattle.std.proofs.Common.{sym}
use Rattle.entity_table.proofs.Reading.{one_or_two-many}
use Rattle.entity_table.proofs.read.one_or_two.Goals as goal

pub returns-in_default : goal.returns-in_default
returns-in_default c = sym (one_or_two-many c.args.points.now c.in_default.len_at_least)
