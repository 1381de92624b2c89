use Rattle.rule_laws.proofs.Renaming.{rows-renamed, construct-renamed}
use Rattle.rule_laws.proofs.RenamingTexts.{characters-renamed, ends-renamed, texts-renamed, later-renames}
use Rattle.rule_laws.proofs.renames.Goals as goal

pub returns-clause-rows : goal.returns-clause-rows
returns-clause-rows c = rows-renamed

pub returns-clause-tokens : goal.returns-clause-tokens
returns-clause-tokens c = construct-renamed

pub returns-clause-characters : goal.returns-clause-characters
returns-clause-characters c = characters-renamed

pub returns-clause-ends : goal.returns-clause-ends
returns-clause-ends c = ends-renamed

pub returns-clause-texts : goal.returns-clause-texts
returns-clause-texts c = texts-renamed

pub returns-clause-later : goal.returns-clause-later
returns-clause-later c = later-renames
