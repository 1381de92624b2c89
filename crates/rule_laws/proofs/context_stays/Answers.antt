use Rattle.rule_laws.proofs.Contexts.{context-stays}
use Rattle.rule_laws.proofs.FragmentTexts.{characters-context, ends-context, texts-context}
use Rattle.rule_laws.proofs.context_stays.Goals as goal

pub returns-clause-tokens : goal.returns-clause-tokens
returns-clause-tokens c = context-stays

pub returns-clause-characters : goal.returns-clause-characters
returns-clause-characters c = characters-context

pub returns-clause-ends : goal.returns-clause-ends
returns-clause-ends c = ends-context

pub returns-clause-texts : goal.returns-clause-texts
returns-clause-texts c = texts-context
