use Rattle.rule_laws.proofs.Rounds as law
use Rattle.rule_laws.proofs.ProperModes as modes
use Rattle.rule_laws.proofs.rounds_suffice.Goals as goal

pub returns-clause-suffice : goal.returns-clause-suffice
returns-clause-suffice c = law.rounds-suffice

pub returns-clause-answer : goal.returns-clause-answer
returns-clause-answer c = law.rounds-answer

pub returns-clause-proper : goal.returns-clause-proper
returns-clause-proper c = modes.proper-has-modes
