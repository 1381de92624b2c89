-- What the thread of the parser's side gives back.
use Rattle.std.specs.Prelude.{◌≡◌}
use Rattle.speculation.specs.declared.in_force.InForce as InForce
use Rattle.parser_thread.specs.declared.seat.ParserLanes.{ParserLanes}
use Rattle.parser_thread.specs.declared.seat.Parting.{Parting}
use Rattle.parser_thread.specs.declared.seat.Parting.TheVariants.{Done, Unused}
use Rattle.parser_thread.specs.Answers.{Worked}

module _ {E : Type 0} (g : InForce.Ghosts E) where
  -- it has worked over the lanes that it was given, or hands them back as they were
  abbrev pub Kept : ParserLanes E g → Parting E g → Type 0
  Kept lanes (Done e) = (e.asked.lane ≡ lanes.asked.lane) × (e.answers.lane ≡ lanes.answers.lane) × Worked g e.asked.taken e.answers.put
  Kept lanes (Unused l) = (l.asked ≡ lanes.asked) × (l.answers ≡ lanes.answers)
