use Rattle.rule_laws.proofs.Framing.{run-framed, by_mode-framed, process-framed, construct-framed}
use Rattle.rule_laws.proofs.appends_operations.Goals as goal

pub returns-clause-rows : goal.returns-clause-rows
returns-clause-rows c = run-framed

pub returns-clause-rules : goal.returns-clause-rules
returns-clause-rules c = by_mode-framed

pub returns-clause-rounds : goal.returns-clause-rounds
returns-clause-rounds c = process-framed

pub returns-clause-tokens : goal.returns-clause-tokens
returns-clause-tokens c = construct-framed
