use Rattle.rule_laws.specs.Naming.{CameBefore}
use Rattle.rule_laws.proofs.FreshnessTexts.{tokens-bound, characters-bound, ends-bound, texts-bound, before-follows}
use Rattle.rule_laws.proofs.ids_come_in_order.Goals as goal

pub returns-clause-tokens : goal.returns-clause-tokens
returns-clause-tokens c = tokens-bound CameBefore before-follows

pub returns-clause-characters : goal.returns-clause-characters
returns-clause-characters c = characters-bound CameBefore before-follows

pub returns-clause-ends : goal.returns-clause-ends
returns-clause-ends c = ends-bound CameBefore before-follows

pub returns-clause-texts : goal.returns-clause-texts
returns-clause-texts c = texts-bound CameBefore before-follows
