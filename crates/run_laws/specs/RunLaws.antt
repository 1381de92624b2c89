-- What is claimed of a journal's events.
use Rattle.std.specs.Prelude.{ℕ, List}
use Rattle.standard.specs.Entities.{Entities}
use Rattle.core_definitions.specs.Core.{Request}
use Rattle.core_definitions.specs.Journal.{Journal}
use Rattle.run_laws.specs.Along.{HoldsAlong, SendsOf, DropsOver}

-- where the requests are those of its Sends
abbrev pub DropsAreOver : Type 0
DropsAreOver = (requests : List Request) (es : Entities) (ahead : ℕ) (j : Journal) → HoldsAlong (λ x. SendsOf requests) es ahead j → HoldsAlong (DropsOver requests) es ahead j
