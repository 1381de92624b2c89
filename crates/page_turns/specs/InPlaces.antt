-- The parser's side in the calling thread, as contracts see it.
use Rattle.std.specs.Prelude.{◌≡◌, Bool, List, [], ◌∷◌, ◌++◌, map, if◌then◌else◌, Option, Some, None}
use Rattle.std.specs.declared.snapshot.Snapshot.{Snapshot}
use Rattle.standard.specs.Entities.{Entities}
use Rattle.core_definitions.specs.Core.{Request, WorkSide, first_work}
use Rattle.speculation.specs.declared.in_force.InForce as InForce
use Rattle.speculation.specs.declared.reply.Reply.{Reply}
use Rattle.speculation.specs.Asking.{Asked, Told}
use Rattle.core_steps.specs.Working.{replies_to, behind}
use Rattle.page_turns.specs.Along.{requests_of}
use Rattle.page_turns.specs.Messages.{Message}
use Rattle.page_turns.specs.Turns.{Load}

pub record Place : Type 0 where
  -- what is under way
  pub load : Load
  -- the requests that were put, and what was taken, where they are told
  pub asked : Option (List Asked)
  pub taken : Option (List Message)
  -- whether no call was refused
  pub ordered : Bool

-- until memory runs out
abbrev pub told_of : {A : Type 0} → Bool → List A → Option (List A)
told_of tells all = if tells then Some all else None

abbrev pub asked_in : List (Snapshot Asked) → List Asked
asked_in = map (λ (s : Snapshot Asked). s.value)

abbrev pub taken_in : List (Snapshot Told) → List Message
taken_in = map (λ (s : Snapshot Told). Some s.value)

-- g: the entities in force
module _ {E : Type 0} {g : InForce.Ghosts E} where
  abbrev pub replies_in : List (Reply E g) → List Message
  replies_in = map (λ (r : Reply E g). Some r.said)

abbrev pub in_hand : Option Request → List Request
in_hand None = []
in_hand (Some r) = r ∷ []

-- Of the requests that were put these were answered, one behind another, and the parser stands where the last answer ends. Behind them come
-- the one that was picked, and those that stand.
pub record IsAnswering (es : Entities) (asked : List Asked) (given : List Message) (work : WorkSide) (requests : List Asked) : Type 0 where
  pub answered : List Request
  pub asked_are : requests_of asked ≡ answered ++ in_hand work.hand ++ requests_of requests
  pub said : List Told
  pub given_are : given ≡ map Some said
  pub replies_are : map (λ (t : Told). t.reply) said ≡ replies_to es first_work.parser answered
  pub parser_is : work.parser ≡ behind es first_work.parser answered
