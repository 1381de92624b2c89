use Rattle.fragment_laws.proofs.Children.{sets-children}
use Rattle.fragment_laws.proofs.Sets.{sets-tree, sets-too_deep}
use Rattle.fragment_laws.proofs.statement_sets_the_tree.Goals as goal

pub returns-clause-children : goal.returns-clause-children
returns-clause-children c = sets-children

pub returns-clause-tree : goal.returns-clause-tree
returns-clause-tree c = sets-tree

pub returns-clause-too_deep : goal.returns-clause-too_deep
returns-clause-too_deep c = sets-too_deep
