-- What a run leaves behind, and its replay.
use Rattle.std.specs.Prelude.{◌≡◌, ℕ, List, [], ◌∷◌, ◌++◌, Option, Some, None}
use Rattle.html_types.specs.declared.ending.Ending.{Ending}
use Rattle.standard.specs.Entities.{Entities}
use Rattle.serial.specs.Scripts.{Fetched}
use Rattle.serial.specs.Serial.{World, fetched, Side}
use Rattle.core_definitions.specs.declared.event.Event.{Event}
use Rattle.core_definitions.specs.declared.event.Event.TheVariants.{Pick, Give, Take}
use Rattle.core_definitions.specs.Desk.{Phase, Desk, first_desk, pieces_with, MovesBy}
use Rattle.core_definitions.specs.Core.{Setup, Core, first_core, Runs}

pub record Journal : Type 0 where
  -- the page's text, in the pieces in which it was read, and its ending where that was read
  pub pieces : List (List ℕ)
  pub ending : Option Ending
  -- each name that was fetched, and what came of it
  pub fetches : List (List ℕ × Fetched)
  -- the events of the document's side
  pub events : List Event

-- in that world the fetches are as they were
abbrev pub Knows : List (List ℕ × Fetched) → World → Type 0
Knows [] w = Unit {0}
Knows (f ∷ fs) w = (fetched w f.0 ≡ f.1) × Knows fs w

-- ---- the document's side alone

-- in each world with those entities, and in which the fetches are as they were, the events lead to that desk
abbrev pub Replays : Entities → ℕ → Journal → Desk → Type 0
Replays es ahead j d = (w : World) → w.entities ≡ es → Knows j.fetches w → MovesBy ahead w j.events (first_desk (pieces_with j.pieces j.ending)) d

-- ---- both sides

-- those of the document's side
abbrev pub own_events : List Event → List Event
own_events [] = []
own_events (Pick ∷ vs) = own_events vs
own_events (Give ∷ vs) = own_events vs
own_events (v ∷ vs) = v ∷ own_events vs

-- each reply is picked and given just before it is taken
abbrev pub with_replies : List Event → List Event
with_replies [] = []
with_replies (Take ∷ vs) = Pick ∷ Give ∷ Take ∷ with_replies vs
with_replies (v ∷ vs) = v ∷ with_replies vs

-- the pieces are those that were read, and where no ending was read perhaps more, and any ending
abbrev pub IsPageOf : Option Ending → List (List ℕ) → Setup → Type 0
IsPageOf None pieces x = (more : List (List ℕ)) × (x.pieces ≡ pieces ++ more)
IsPageOf (Some e) pieces x = (x.pieces ≡ pieces) × (x.ending ≡ e)

-- a run in which all is as the journal has it
pub record IsRunOf (es : Entities) (ahead : ℕ) (j : Journal) (x : Setup) : Type 0 where
  pub entities : x.world.entities ≡ es
  pub fetches : Knows j.fetches x.world
  pub page : IsPageOf j.ending j.pieces x
  pub credit : x.ahead ≡ ahead

-- in each such run the events, each of them enabled, lead the core to that document, these lines and that phase
abbrev pub ReplaysInCore : Entities → ℕ → Journal → Side → Phase → Type 0
ReplaysInCore es ahead j side phase =
    (x : Setup) → IsRunOf es ahead j x → (c : Core) × Runs x (with_replies j.events) (first_core x) c × (c.desk.own.side ≡ side) × (c.desk.phase ≡ phase)
