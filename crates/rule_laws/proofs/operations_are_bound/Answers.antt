use Rattle.rule_laws.specs.Naming.{AreFresh}
use Rattle.rule_laws.proofs.FreshnessTexts.{tokens-bound, characters-bound, ends-bound, texts-bound, fresh-follows}
use Rattle.rule_laws.proofs.operations_are_bound.Goals as goal

pub returns-clause-tokens : goal.returns-clause-tokens
returns-clause-tokens c = tokens-bound AreFresh fresh-follows

pub returns-clause-characters : goal.returns-clause-characters
returns-clause-characters c = characters-bound AreFresh fresh-follows

pub returns-clause-ends : goal.returns-clause-ends
returns-clause-ends c = ends-bound AreFresh fresh-follows

pub returns-clause-texts : goal.returns-clause-texts
returns-clause-texts c = texts-bound AreFresh fresh-follows
