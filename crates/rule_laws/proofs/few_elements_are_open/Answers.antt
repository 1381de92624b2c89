use Rattle.rule_laws.proofs.Depth as law
use Rattle.rule_laws.proofs.few_elements_are_open.Goals as goal

pub returns-clause-opening : goal.returns-clause-opening
returns-clause-opening c = law.opening-shallow

pub returns-clause-rounds : goal.returns-clause-rounds
returns-clause-rounds c = law.rounds-shallow

pub returns-clause-tokens : goal.returns-clause-tokens
returns-clause-tokens c = law.tokens-shallow
