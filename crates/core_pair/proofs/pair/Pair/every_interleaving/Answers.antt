use Rattle.core_pair.proofs.Holding.{run-shown}
use Rattle.core_pair.proofs.Interleaved.{always-stands_for, ends-as-serial, ends-in-each, lines-begin, credit-kept, bounded-where-it-stands, bounded-by-the-parse}
use Rattle.core_pair.proofs.pair.Pair.every_interleaving.Goals as goal

pub returns-clause-stands_for : goal.returns-clause-stands_for
returns-clause-stands_for g c = always-stands_for (run-shown c.self.invariant c.self.view_is)

pub returns-clause-ends : goal.returns-clause-ends
returns-clause-ends g c = ends-as-serial (run-shown c.self.invariant c.self.view_is)

pub returns-clause-in_each : goal.returns-clause-in_each
returns-clause-in_each g c = ends-in-each (run-shown c.self.invariant c.self.view_is)

pub returns-clause-lines : goal.returns-clause-lines
returns-clause-lines g c = lines-begin (run-shown c.self.invariant c.self.view_is)

pub returns-clause-credit : goal.returns-clause-credit
returns-clause-credit g c = credit-kept (run-shown c.self.invariant c.self.view_is)

pub returns-clause-so_far : goal.returns-clause-so_far
returns-clause-so_far g c = bounded-where-it-stands (run-shown c.self.invariant c.self.view_is)

pub returns-clause-in_all : goal.returns-clause-in_all
returns-clause-in_all g c = bounded-by-the-parse (run-shown c.self.invariant c.self.view_is)
