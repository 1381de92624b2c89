use Rattle.rule_laws.proofs.NeverStops.{tokens-never_stop}
use Rattle.rule_laws.proofs.FragmentTexts.{characters-never_stop, texts-never_stop, fragments-parse, fragment-parse}
use Rattle.rule_laws.proofs.fragments_never_stop.Goals as goal

pub returns-clause-tokens : goal.returns-clause-tokens
returns-clause-tokens c = tokens-never_stop

pub returns-clause-characters : goal.returns-clause-characters
returns-clause-characters c = characters-never_stop

pub returns-clause-texts : goal.returns-clause-texts
returns-clause-texts c = texts-never_stop

pub returns-clause-through : goal.returns-clause-through
returns-clause-through c = fragments-parse

pub returns-clause-fragment : goal.returns-clause-fragment
returns-clause-fragment c = fragment-parse
