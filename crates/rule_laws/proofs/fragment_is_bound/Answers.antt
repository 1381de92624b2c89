use Rattle.rule_laws.specs.Naming.{AreFresh, CameBefore}
use Rattle.rule_laws.proofs.FreshnessTexts.{fresh-follows, before-follows}
use Rattle.rule_laws.proofs.FragmentTexts.{docs-through, fragment-bound}
use Rattle.rule_laws.proofs.fragment_is_bound.Goals as goal

pub returns-clause-fragment : goal.returns-clause-fragment
returns-clause-fragment c = fragment-bound

pub returns-clause-through : goal.returns-clause-through
returns-clause-through c = docs-through AreFresh fresh-follows

pub returns-clause-through_alone : goal.returns-clause-through_alone
returns-clause-through_alone c = docs-through CameBefore before-follows
