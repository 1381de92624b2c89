-- Where a run stands, as its caller is told.
use Rattle.core_definitions.specs.Desk.{Desk}
use Rattle.core_steps.specs.declared.state.State.{State}
use Rattle.core_steps.specs.declared.state.State.TheVariants.{Running, Awaits, Over}
use Rattle.core_steps.specs.Sides.{Standing, running, awaiting, over}
use Rattle.parse_machine.specs.Ends.{result_of}

abbrev pub standing_told : State → Standing
standing_told Running = running
standing_told (Awaits name) = awaiting name.now
standing_told (Over e) = over (result_of e)
