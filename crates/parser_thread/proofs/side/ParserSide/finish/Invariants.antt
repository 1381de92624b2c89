use Rattle.std.proofs.Common.{◌≡◌}
use Rattle.parser_thread.specs.Sides.{Stands}
use Rattle.parser_thread.proofs.side.ParserSide.finish.Given as goal

abbrev pub invariant-loop : goal.invariant-loop
invariant-loop g l = (l.self.asked.lane ≡ l.initial.self.asked.lane) × (l.self.answers.lane ≡ l.initial.self.answers.lane) × Stands g.E.InForce l.self
