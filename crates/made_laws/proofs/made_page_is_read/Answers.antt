use Rattle.made_laws.proofs.MadePages as law
use Rattle.made_laws.proofs.made_page_is_read.Goals as goal

pub returns-clause-ascii : goal.returns-clause-ascii
returns-clause-ascii c = law.is-in_ascii

pub returns-clause-page : goal.returns-clause-page
returns-clause-page c = law.is-read_as_made

pub returns-clause-entities : goal.returns-clause-entities
returns-clause-entities c = law.names-no_entity
