use Rattle.rule_laws.proofs.RenamingTexts.{tokens-grow, characters-grow, ends-grow, texts-grow}
use Rattle.rule_laws.proofs.ids_grow.Goals as goal

pub returns-clause-tokens : goal.returns-clause-tokens
returns-clause-tokens c = tokens-grow

pub returns-clause-characters : goal.returns-clause-characters
returns-clause-characters c = characters-grow

pub returns-clause-ends : goal.returns-clause-ends
returns-clause-ends c = ends-grow

pub returns-clause-texts : goal.returns-clause-texts
returns-clause-texts c = texts-grow
