use Rattle.std.proofs.Common.{arith}
use Rattle.std.proofs.lemmas.Grind.{common_steps}
use Rattle.entity_table.proofs.Reading.{entities_of-json, entities_of-no_json}
use Rattle.entity_table.proofs.read.rows.Goals as goal

pub returns-in_err-value-clause-no_rows : goal.returns-in_err-value-clause-no_rows
returns-in_err-value-clause-no_rows c = grind (arith, common_steps, entities_of-no_json)

pub returns-in_err-members-clause-no_rows : goal.returns-in_err-members-clause-no_rows
returns-in_err-members-clause-no_rows c = grind (arith, common_steps, entities_of-json)

pub returns-clause-rows : goal.returns-clause-rows
returns-clause-rows c = grind (arith, common_steps, entities_of-json)

pub returns-clause-no_rows : goal.returns-clause-no_rows
returns-clause-no_rows c = grind (arith, common_steps, entities_of-json)
