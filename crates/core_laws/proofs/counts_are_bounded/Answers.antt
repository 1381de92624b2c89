use Rattle.core_laws.proofs.Bounding as law
use Rattle.core_laws.proofs.counts_are_bounded.Goals as goal

pub returns-clause-credit : goal.returns-clause-credit
returns-clause-credit c = law.credit-is_kept

pub returns-clause-so_far : goal.returns-clause-so_far
returns-clause-so_far c = law.bounded-where_it_stands

pub returns-clause-in_all : goal.returns-clause-in_all
returns-clause-in_all c = law.bounded-by_the_parse
