use Rattle.fragment_laws.proofs.Whole.{statements-set, tags-others, statements-stay, moments-stay}
use Rattle.fragment_laws.proofs.fragments_are_set_in_every_parse.Goals as goal

pub returns-clause-sets : goal.returns-clause-sets
returns-clause-sets c = statements-set

pub returns-clause-scripts : goal.returns-clause-scripts
returns-clause-scripts c = tags-others

pub returns-clause-statements : goal.returns-clause-statements
returns-clause-statements c = statements-stay

pub returns-clause-moments : goal.returns-clause-moments
returns-clause-moments c = moments-stay
