use Rattle.stack_laws.proofs.GroundTokens as law
use Rattle.stack_laws.proofs.stack_stands_on_its_root.Goals as goal

pub returns-clause-stands : goal.returns-clause-stands
returns-clause-stands c = law.grounded-stand

pub returns-clause-opening : goal.returns-clause-opening
returns-clause-opening c = law.opening-grounded

pub returns-clause-tokens : goal.returns-clause-tokens
returns-clause-tokens c = law.tokens-grounded
