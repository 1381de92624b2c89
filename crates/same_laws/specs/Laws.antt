-- That each event of the core that is enabled has its step.
use Rattle.std.specs.Prelude.{IsTrue, List}
use Rattle.core_definitions.specs.declared.event.Event.{Event}
use Rattle.core_definitions.specs.Core.{Setup, Core, first_core, enabled, Steps, Runs}

abbrev pub HaveSteps : Type 0
HaveSteps = (x : Setup) (vs : List Event) (c : Core) (v : Event) → Runs x vs (first_core x) c → IsTrue (enabled x v c) → (c' : Core) × Steps x v c c'
