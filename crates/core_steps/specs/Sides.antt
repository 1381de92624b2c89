-- The document's side: what it shows, and the desk that what it holds comes to.
use Rattle.std.specs.Prelude.{◌≡◌, ◌≢◌, ◌≤◌, ◌+◌, ◌-◌, ◌*◌, ℕ, suc, Bool, true, false, IsTrue, is_none, List, [], ◌∷◌, ◌++◌, length, Option, Some, None}
use Rattle.std.specs.declared.snapshot.Snapshot.{Snapshot}
use Rattle.serial.specs.declared.script.Line.{Line}
use Rattle.html_types.specs.declared.ending.Ending.{Ending}
use Rattle.html_types.specs.declared.ending.Why.{Why}
use Rattle.standard.specs.Act.{is_bound}
use Rattle.standard.specs.Entities.{Entities}
use Rattle.standard.specs.Parser.{Parser}
use Rattle.serial.specs.Scripts.{Fetched}
use Rattle.serial.specs.Serial.{World, Serial, Result, finished, refused, write_limit}
use Rattle.serial.specs.Serial as serial
use Rattle.core_definitions.specs.declared.event.Event.{Event}
use Rattle.core_definitions.specs.declared.event.Event.TheVariants.{Arrive}
use Rattle.core_definitions.specs.Batches.{Piece, of_text, of_ending, Batch, answer}
use Rattle.core_definitions.specs.Core.{Request, request_for, joined}
use Rattle.core_definitions.specs.Desk.{Phase, free, tagged, waits, done, Desk, first_desk, pieces_with, with_more, has_arrived, can_send, can_do, wants_reply, arrives, Does, MovesBy}
use Rattle.core_definitions.specs.Journal.{Journal, Knows}
use Rattle.core_definitions.specs.StandsFor.{text_of, page_left}
use Rattle.moment_laws.specs.Served.{IsRoomy}
use Rattle.page_pieces.specs.Keeping.{Kept}
use Rattle.write_parser.specs.Writing.{View, serial_of}
use Rattle.speculation.specs.Asking.{page_limit}
use Rattle.core_steps.specs.declared.stage.Stage.{Stage}
use Rattle.core_steps.specs.declared.stage.Stage.TheVariants.{Free, Tagged, Waits, Done}
use Rattle.core_steps.specs.declared.side.Side.{Side}
use Rattle.core_steps.specs.declared.side.Could.{Could}
use Rattle.core_steps.specs.Fetches.{names_of}
use Rattle.core_steps.specs.Journals.{empty_journal}
use Rattle.parse_machine.specs.Ends.{result_of}

-- ---- what it shows

pub record Shown : Type 0 where
  pub desk : Desk
  -- of its lines, those that were taken
  pub given : List Line
  pub journal : Journal
  pub entities : Entities
  -- so many requests are sent ahead at most
  pub ahead : ℕ
  -- memory ran out
  pub spent : Bool

abbrev pub first_shown : Entities → ℕ → Shown
first_shown es ahead = record { desk = first_desk []; given = []; journal = empty_journal; entities = es; ahead = ahead; spent = false }

-- a piece more was read
abbrev pub with_piece : List ℕ → Shown → Shown
with_piece t s = record s { desk = with_more (of_text t ∷ []) s.desk; journal = record s.journal { pieces = s.journal.pieces ++ t ∷ [] } }

-- the page's ending was read
abbrev pub with_ending : Ending → Shown → Shown
with_ending e s = record s { desk = with_more (of_ending e ∷ []) s.desk; journal = record s.journal { ending = Some e } }

-- the event made that of the desk
abbrev pub journaled : Event → Desk → Shown → Shown
journaled v d s = record s { desk = d; journal = record s.journal { events = s.journal.events ++ v ∷ [] } }

-- the fetch of that name returned so
abbrev pub with_fetch : List ℕ → Fetched → Shown → Shown
with_fetch name f s = record s {
  desk = arrives name s.desk;
  journal = record s.journal { fetches = (name, f) ∷ s.journal.fetches; events = s.journal.events ++ Arrive name ∷ [] };
}

-- the request is for the first of the pieces to be sent
abbrev pub IsRequestFor : List Piece → Desk → Request → Type 0
IsRequestFor [] d r = ⊥
IsRequestFor (x ∷ xs) d r = r ≡ request_for d x

-- how many characters of the page stand before the pieces to be sent
abbrev pub sent_before : Shown → ℕ
sent_before s = length (joined s.journal.pieces) - length (text_of s.desk.to_send)

-- where the parse finished, as many characters were written and scripts executed
abbrev pub CountsAlike : Result → serial.Side → serial.Side → Type 0
CountsAlike finished a b = (a.written ≡ b.written) × (a.executed ≡ b.executed)
CountsAlike (refused w) a b = Unit {0}

-- At the end a desk shows its result, document and lines, and what is kept of the pieces.
abbrev pub ShowsIn : Phase → Desk → Desk → Type 0
ShowsIn (done r) d v =
    (d ≡ record v { own = d.own; hand = d.hand }) × (d.own.side.doc ≡ v.own.side.doc) × (d.own.side.lines ≡ v.own.side.lines) × CountsAlike r d.own.side v.own.side
ShowsIn p d v = d ≡ v

-- what is shown of the first desk is the second
abbrev pub Shows : Desk → Desk → Type 0
Shows d v = ShowsIn v.phase d v

-- In each world with those entities, and in which the fetches are as they were, the event Do leads from the one desk to what the other shows.
abbrev pub DoesShow : Entities → List (List ℕ × Fetched) → Desk → Desk → Type 0
DoesShow es fetches d v = (w : World) → w.entities ≡ es → Knows fetches w → (d' : Desk) × Does w d d' × Shows d' v

-- and so the journal's events lead to what is shown
abbrev pub IsReplayed : Shown → Type 0
IsReplayed s =
    (w : World) → w.entities ≡ s.entities → Knows s.journal.fetches w →
    (d : Desk) × MovesBy s.ahead w s.journal.events (first_desk (pieces_with s.journal.pieces s.journal.ending)) d × Shows d s.desk

-- ---- where it stands

pub data Standing : Type 0 where
  running : Standing
  awaiting : List ℕ → Standing
  over : Result → Standing

abbrev pub unless_arrived : Bool → List ℕ → Standing
unless_arrived true name = running
unless_arrived false name = awaiting name

abbrev pub standing_in : Phase → Desk → Standing
standing_in (waits name held) d = unless_arrived (has_arrived name d) name
standing_in (done r) d = over r
standing_in _ d = running

abbrev pub standing_of : Desk → Standing
standing_of d = standing_in d.phase d

-- ---- a measure of what is left to do, which each Do makes less

-- the characters that scripts may still write, those that they wrote and that aren't used, and those of the page that are left
abbrev pub characters_left : Desk → ℕ
characters_left d = 2 * (write_limit - d.own.side.written) + 2 * length d.own.input + 3 * length (page_left d)

abbrev pub left_in : Phase → Desk → ℕ
left_in free d = characters_left d + 1
left_in (tagged i held) d = characters_left d + 3
left_in (waits name held) d = characters_left d + 2
left_in (done r) d = 0

abbrev pub left_to_do : Desk → ℕ
left_to_do d = left_in d.phase d

-- ---- what it holds

abbrev pub lines_given : List (Snapshot (List Line)) → List Line
lines_given [] = []
lines_given (g ∷ gs) = g.value ++ lines_given gs

abbrev pub phase_of : Stage → Phase
phase_of Free = free
phase_of (Tagged i held) = tagged i held
phase_of (Waits name held) = waits name held
phase_of (Done e in_hand) = done (result_of e)

-- The batches in hand are those that the rest of the piece in hand comes to, from where the text behind the script in hand was parsed.
abbrev pub hand_of : Entities → Stage → Parser → Piece → List Batch
hand_of es Free now x = (answer es (Some now) x).batches
hand_of es (Tagged i held) now x = (answer es (Some held) x).batches
hand_of es (Waits name held) now x = (answer es (Some held) x).batches
hand_of es (Done why in_hand) now x = []

abbrev pub desk_of : Side → Desk
desk_of s = record {
  own = serial_of s.writer (lines_given s.given.items) [];
  phase = phase_of s.stage;
  hand = hand_of s.table s.stage s.writer.parser s.ledger.left;
  left = s.ledger.left;
  asked = s.ledger.asked;
  to_send = s.ledger.to_send;
  begins = s.begins;
  epoch = s.counts.epoch;
  realm = s.counts.realm;
  sent = s.ledger.sent;
  taken = s.ledger.taken;
  dropped = s.ledger.dropped;
  arrived = names_of s.journal.fetches;
}

abbrev pub shown_of : Side → Bool → Shown
shown_of s spent = record { desk = desk_of s; given = lines_given s.given.items; journal = s.journal; entities = s.table; ahead = s.ledger.ahead; spent = spent }

-- ---- what is known of it

-- nothing that was written is left, and no script is awaited
pub record IsIdle (v : View) : Type 0 where
  pub rest : v.rest ≡ []
  pub pending : v.pending ≡ None
  pub halted : v.halted ≡ None

-- The ids of the parser and of the one that is held are bound, and those that come are of realms of their own.
pub record IsHolding (realm : ℕ) (held : Parser) (v : View) : Type 0 where
  pub room : IsRoomy realm v.parser v.doc
  pub held_room : IsRoomy realm held v.doc
  pub apart : held.open_state.next.realm ≢ v.parser.open_state.next.realm

pub record IsTagged (realm : ℕ) (held : Parser) (v : View) (known : Bool) : Type 0 where
  pub idle : IsIdle v
  pub bound : IsTrue known
  pub holding : IsHolding realm held v

pub record IsWaiting (realm : ℕ) (name : List ℕ) (held : Parser) (v : View) : Type 0 where
  pub pending : v.pending ≡ Some name
  pub halted : v.halted ≡ None
  pub holding : IsHolding realm held v

pub record IsFree (realm : ℕ) (v : View) : Type 0 where
  pub idle : IsIdle v
  pub room : IsRoomy realm v.parser v.doc

abbrev pub StandsIn : Stage → ℕ → View → Type 0
StandsIn Free realm v = IsFree realm v
StandsIn (Tagged i held) realm v = IsTagged realm held v (is_bound v.doc.bound i)
StandsIn (Waits name held) realm v = IsWaiting realm name held v
StandsIn (Done why in_hand) realm v = Unit {0}

-- Batches that were made ahead are there, or none.
abbrev pub AreAhead : List Batch → List Batch → Type 0
AreAhead [] hand = Unit {0}
AreAhead (b ∷ bs) hand = b ∷ bs ≡ hand

-- the places in the page of what is left of the piece in hand, and of the pieces to be sent
pub record IsPlaced (place sent_to : ℕ) (k : Kept) (j : Journal) : Type 0 where
  pub asked : place + length (text_of (k.left ∷ k.asked)) ≡ sent_to
  pub to_send : sent_to + length (text_of k.to_send) ≡ length (joined j.pieces)
  pub within : length (joined j.pieces) ≤ page_limit

pub record IsSound (s : Side) : Type 0 where
  pub going : s.writer.spent ≡ false
  pub stands : StandsIn s.stage s.counts.realm s.writer
  pub ahead : AreAhead s.ready (hand_of s.table s.stage s.writer.parser s.ledger.left)
  pub placed : IsPlaced s.counts.place s.counts.sent_to s.ledger s.journal

-- What was enabled before an event that was refused. Where a batch or a script was in hand it was running; else it stands as it stood.
pub record IsTold (side before : Side) (could : Could) : Type 0 where
  pub send : could.send ≡ can_send before.ledger.ahead (desk_of before)
  pub act : could.act ≡ can_do (desk_of before)
  pub take : could.take ≡ wants_reply (desk_of before)
  pub stands : could.act ≡ false → standing_of (desk_of side) ≡ standing_of (desk_of before)

-- What is known of a side that shows what is told; before want of memory it was as `before`.
pub record IsKept (side before : Side) (could : Could) (spent : Bool) (told : Shown) : Type 0 where
  pub sound : spent ≡ false → IsSound side
  pub failed : spent ≡ true → IsTold side before could
  pub journal : side.journal ≡ told.journal
  pub replayed : IsReplayed told
