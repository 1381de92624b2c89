-- How the parser's side stands.
use Rattle.std.specs.Prelude.{◌≡◌, false, IsTrue}
use Rattle.speculation.specs.declared.in_force.InForce as InForce
use Rattle.parser_thread.specs.declared.side.ParserSide.{ParserSide}
use Rattle.parser_thread.specs.Answers.{Serving, Worked}

module _ {E : Type 0} (g : InForce.Ghosts E) where
  -- it goes on with each request answered, or it has ended
  abbrev pub Stands : ParserSide E g → Type 0
  Stands s = (IsTrue s.goes_on → Serving g s.worker s.asked.taken s.answers.put) × (s.goes_on ≡ false → Worked g s.asked.taken s.answers.put)
