-- The core: the two sides, the requests and replies that are under way between them, and their events.
use Rattle.std.specs.Prelude.{◌≡◌, ℕ, suc, ◌==◌, Bool, not, ◌&&◌, is_some, IsTrue, if◌then◌else◌, List, [], ◌∷◌, ◌++◌, Option, Some, None}
use Rattle.html_types.specs.declared.ending.Ending.{Ending}
use Rattle.standard.specs.Entities.{Entities}
use Rattle.serial.specs.Page.{Page}
use Rattle.standard.specs.Parser.{Parser, new_parser}
use Rattle.serial.specs.Serial.{World}
use Rattle.core_definitions.specs.declared.event.Event.{Event}
use Rattle.core_definitions.specs.declared.event.Event.TheVariants.{Send, Pick, Give, Take, Do, Arrive}
use Rattle.core_definitions.specs.Batches.{Piece, Batch, Answered, answer}
use Rattle.core_definitions.specs.Settling.{is_empty}
use Rattle.core_definitions.specs.Desk.{Desk, first_desk, pieces_with, is_free, can_send, can_do, can_arrive, sends, with_batches, drops, arrives, Does}

-- ---- what a run is given

pub record Setup : Type 0 where
  -- the entities and the files of scripts
  pub world : World
  -- the page as it was cut
  pub pieces : List (List ℕ)
  pub ending : Ending
  -- so many requests are sent ahead at most
  pub ahead : ℕ

-- the text of the pieces
abbrev pub joined : List (List ℕ) → List ℕ
joined [] = []
joined (t ∷ ts) = t ++ joined ts

abbrev pub whole_page : Setup → Page
whole_page x = record { text = joined x.pieces; ending = x.ending }

-- ---- the state

-- a piece that is to be parsed: from the state that the request carries, or from where the one before it ended
pub record Request : Type 0 where
  pub epoch : ℕ
  pub number : ℕ
  pub start : Option Parser
  pub piece : Piece

pub record Reply : Type 0 where
  pub epoch : ℕ
  pub number : ℕ
  pub batches : List Batch

pub record WorkSide : Type 0 where
  -- the request that it picked and hasn't answered
  pub hand : Option Request
  -- where its last answer ended: none behind a refusal
  pub parser : Option Parser

pub record Core : Type 0 where
  pub desk : Desk
  -- sent and not picked, in order
  pub requests : List Request
  pub work : WorkSide
  -- given and not taken, in order
  pub replies : List Reply

abbrev pub first_work : WorkSide
first_work = record { hand = None; parser = Some (new_parser 0) }

abbrev pub first_core : Setup → Core
first_core x = record { desk = first_desk (pieces_with x.pieces (Some x.ending)); requests = []; work = first_work; replies = [] }

-- ---- the parser's side

abbrev pub started : Option Parser → Option Parser → Option Parser
started None last = last
started (Some p) last = Some p

-- what the parser's side makes of a request
abbrev pub answer_to : Entities → Option Parser → Request → Answered
answer_to es last r = answer es (started r.start last) r.piece

abbrev pub reply_to : Request → List Batch → Reply
reply_to r bs = record { epoch = r.epoch; number = r.number; batches = bs }

-- ---- which events are enabled

abbrev pub enabled : Setup → Event → Core → Bool
enabled x Send c = can_send x.ahead c.desk
enabled x Pick c = not (is_some c.work.hand) && not (is_empty c.requests)
enabled x Give c = is_some c.work.hand
enabled x Take c = is_free c.desk.phase && is_empty c.desk.hand && not (is_empty c.replies)
enabled x Do c = can_do c.desk
enabled x (Arrive name) c = can_arrive name c.desk

-- ---- the steps

abbrev pub request_for : Desk → Piece → Request
request_for d x = record { epoch = d.epoch; number = suc d.sent; start = d.begins; piece = x }

abbrev pub sent_from : List Piece → Core → Core
sent_from [] c = c
sent_from (x ∷ xs) c = record c { desk = sends c.desk; requests = c.requests ++ request_for c.desk x ∷ [] }

abbrev pub picked_from : List Request → Core → Core
picked_from [] c = c
picked_from (r ∷ rs) c = record c { requests = rs; work = record c.work { hand = Some r } }

abbrev pub given_to : Option Request → Entities → Core → Core
given_to None es c = c
given_to (Some r) es c =
    let a : Answered = answer_to es c.work.parser r in
    record c { work = record { hand = None; parser = a.parser }; replies = c.replies ++ reply_to r a.batches ∷ [] }

-- a reply of an epoch that has ended is dropped
abbrev pub takes_reply : Reply → Desk → Desk
takes_reply r d = if r.epoch == d.epoch then with_batches r.batches d.asked d else drops d

abbrev pub taken_from : List Reply → Core → Core
taken_from [] c = c
taken_from (r ∷ rs) c = record c { desk = takes_reply r c.desk; replies = rs }

-- what an event makes of the core
abbrev pub Steps : Setup → Event → Core → Core → Type 0
Steps x Send c c' = c' ≡ sent_from c.desk.to_send c
Steps x Pick c c' = c' ≡ picked_from c.requests c
Steps x Give c c' = c' ≡ given_to c.work.hand x.world.entities c
Steps x Take c c' = c' ≡ taken_from c.replies c
Steps x Do c c' = (d : Desk) × Does x.world c.desk d × (c' ≡ record c { desk = d })
Steps x (Arrive name) c c' = c' ≡ record c { desk = arrives name c.desk }

-- enabled events one behind another
abbrev pub Runs : Setup → List Event → Core → Core → Type 0
Runs x [] c c' = c' ≡ c
Runs x (v ∷ vs) c c' = (c1 : Core) × IsTrue (enabled x v c) × Steps x v c c1 × Runs x vs c1 c'
