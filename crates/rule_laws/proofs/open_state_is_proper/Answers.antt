use Rattle.rule_laws.proofs.Proper as law
use Rattle.rule_laws.proofs.open_state_is_proper.Goals as goal

pub returns-clause-opening : goal.returns-clause-opening
returns-clause-opening c = law.opening-proper

pub returns-clause-tokens : goal.returns-clause-tokens
returns-clause-tokens c = law.tokens-proper
