-- The document's side, as a machine of its own: it sends the page's text out piece by piece, takes what was made of each, executes it in
-- order, runs the scripts that it meets, and decides behind each whether what was made ahead is kept. What it takes is the answer called
-- for; that no other ever comes is a law of the core, which has both sides.
use Rattle.std.specs.Prelude.{◌≡◌, ℕ, suc, ◌-◌, nat_lt, Bool, true, false, not, ◌&&◌, ◌||◌, is_none, IsTrue, if◌then◌else◌, List, [], ◌∷◌, ◌++◌, length, drop, Option, Some, None}
use Rattle.html_types.specs.Text.{same_text}
use Rattle.html_types.specs.declared.operation.NodeId.{NodeId}
use Rattle.html_types.specs.declared.instruction.Stop.TheVariants as stop
use Rattle.html_types.specs.declared.ending.Ending.{Ending}
use Rattle.html_types.specs.declared.ending.Why.TheVariants as why
use Rattle.standard.specs.Entities.{Entities}
use Rattle.standard.specs.Act.{new_doc, acts}
use Rattle.standard.specs.Parser.{Parser, new_parser}
use Rattle.serial.specs.Scripts.{is_lawful}
use Rattle.serial.specs.Serial.{World, Serial, Result, finished, refused, prepared, Moment, reading, tag_ended, awaits, over}
use Rattle.core_definitions.specs.declared.event.Event.{Event}
use Rattle.core_definitions.specs.declared.event.Event.TheVariants.{Send, Pick, Give, Take, Do, Arrive}
use Rattle.core_definitions.specs.declared.verdict.Verdict.{Verdict}
use Rattle.core_definitions.specs.declared.verdict.Verdict.TheVariants.{Keep, Rewind}
use Rattle.core_definitions.specs.Batches.{Piece, of_text, of_ending, Batch, Halt, at, answer, over_with}
use Rattle.core_definitions.specs.Verdict.{IsVerdict, runs}
use Rattle.core_definitions.specs.Settling.{is_empty, Settles}

-- ---- the state

-- what the document's side has in hand besides batches
pub data Phase : Type 0 where
  free : Phase
  -- a script whose end tag was met, and the parser's state just behind the tag
  tagged : NodeId → Parser → Phase
  -- a script that awaits the file of that name, and that state
  waits : List ℕ → Parser → Phase
  -- the parse is over
  done : Result → Phase

pub record Desk : Type 0 where
  -- its own state of the parse, at level 0, under ids of its own; its input is what was written and isn't used yet
  pub own : Serial
  pub phase : Phase
  -- the batches that were taken and aren't executed
  pub hand : List Batch
  -- of the piece that they were made of, what isn't executed
  pub left : Piece
  -- the pieces that were sent in this epoch and aren't taken
  pub asked : List Piece
  -- the pieces to be sent: those that are sent again, and then those that never were
  pub to_send : List Piece
  -- the state that the next request carries, if it is the first of its epoch
  pub begins : Option Parser
  pub epoch : ℕ
  -- the next realm of ids that no element has
  pub realm : ℕ
  -- the requests sent, the replies taken, and how many of these were dropped
  pub sent : ℕ
  pub taken : ℕ
  pub dropped : ℕ
  -- the names of the scripts whose fetch has returned
  pub arrived : List (List ℕ)

abbrev pub blank : Piece
blank = of_text []

abbrev pub first_own : Serial
first_own = record {
  input = [];
  point = 0;
  parser = new_parser 0;
  side = record { doc = new_doc; level = 0; pending = None; written = 0; executed = 0; lines = [] };
}

-- with those pieces to be sent
abbrev pub first_desk : List Piece → Desk
first_desk pieces = record {
  own = first_own;
  phase = free;
  hand = [];
  left = blank;
  asked = [];
  to_send = pieces;
  begins = Some (new_parser 0);
  epoch = 1;
  realm = 1;
  sent = 0;
  taken = 0;
  dropped = 0;
  arrived = [];
}

-- the pieces of a page, and its ending where it was read, which goes alone
abbrev pub pieces_with : List (List ℕ) → Option Ending → List Piece
pieces_with [] None = []
pieces_with [] (Some e) = of_ending e ∷ []
pieces_with (t ∷ ts) e = of_text t ∷ pieces_with ts e

-- more pieces, to be sent behind all others
abbrev pub with_more : List Piece → Desk → Desk
with_more xs d = record d { to_send = d.to_send ++ xs }

-- ---- which events are enabled

-- the requests whose replies weren't taken
abbrev pub outstanding : Desk → ℕ
outstanding d = d.sent - d.taken

-- those of them that an ended epoch sent
abbrev pub stale : Desk → ℕ
stale d = outstanding d - length d.asked

abbrev pub is_free : Phase → Bool
is_free free = true
is_free _ = false

abbrev pub is_done : Phase → Bool
is_done (done r) = true
is_done _ = false

abbrev pub is_among : List ℕ → List (List ℕ) → Bool
is_among name [] = false
is_among name (n ∷ ns) = same_text n name || is_among name ns

-- a name that isn't lawful is never fetched, and counts as arrived
abbrev pub has_arrived : List ℕ → Desk → Bool
has_arrived name d = not (is_lawful name) || is_among name d.arrived

-- credit is left, and a piece is to be sent
abbrev pub can_send : ℕ → Desk → Bool
can_send ahead d = not (is_done d.phase) && nat_lt (outstanding d) ahead && not (is_empty d.to_send)

-- nothing is in hand, and a reply is to come
abbrev pub wants_reply : Desk → Bool
wants_reply d = is_free d.phase && is_empty d.hand && nat_lt 0 (outstanding d)

abbrev pub can_do_in : Phase → Desk → Bool
can_do_in free d = not (is_empty d.hand)
can_do_in (tagged i held) d = true
can_do_in (waits name held) d = has_arrived name d
can_do_in (done r) d = false

-- a batch is in hand, or a script that can run on
abbrev pub can_do : Desk → Bool
can_do d = can_do_in d.phase d

abbrev pub can_arrive : List ℕ → Desk → Bool
can_arrive name d = is_lawful name && not (is_among name d.arrived)

-- ---- Send, Take, Arrive

abbrev pub sends_first : List Piece → Desk → Desk
sends_first [] d = d
sends_first (x ∷ xs) d = record d { asked = d.asked ++ x ∷ []; to_send = xs; begins = None; sent = suc d.sent }

abbrev pub sends : Desk → Desk
sends d = sends_first d.to_send d

-- a reply to a request of this epoch: its batches are in hand
abbrev pub with_batches : List Batch → List Piece → Desk → Desk
with_batches bs [] d = d
with_batches bs (x ∷ xs) d = record d { hand = bs; left = x; asked = xs; taken = suc d.taken }

-- a reply to a request of an epoch that has ended
abbrev pub drops : Desk → Desk
drops d = record d { taken = suc d.taken; dropped = suc d.dropped }

-- the answer that is called for: to the first piece that was asked, from where the document's side stands
abbrev pub answer_called_for : Entities → Desk → List Piece → List Batch
answer_called_for es d [] = []
answer_called_for es d (x ∷ xs) = (answer es (Some d.own.parser) x).batches

-- replies come in the order of the requests, so those of ended epochs come first
abbrev pub takes : Entities → Desk → Desk
takes es d = if nat_lt 0 (stale d) then drops d else with_batches (answer_called_for es d d.asked) d.asked d

abbrev pub arrives : List ℕ → Desk → Desk
arrives name d = record d { arrived = name ∷ d.arrived }

-- ---- Do, with no script in hand: a batch is executed

-- the ids that come are of a realm of their own
abbrev pub renewed : ℕ → Parser → Parser
renewed realm p = record p { open_state = record p.open_state { next = record { realm = realm; n = 0 } } }

abbrev pub in_phase : Phase → Desk → Desk
in_phase p d = record d { phase = p }

-- a script that runs is in hand, and what it writes has ids of its own
abbrev pub at_end_tag : Bool → NodeId → Desk → Desk
at_end_tag false i d = d
at_end_tag true i d = record d { phase = tagged i d.own.parser; own = record d.own { parser = renewed d.realm d.own.parser }; realm = suc d.realm }

abbrev pub behind_halt : Halt → Desk → Desk
behind_halt (at stop.InputEnd) d = d
behind_halt (at (stop.Script i)) d = at_end_tag (runs (prepared i d.own)) i d
behind_halt (at stop.Deep) d = in_phase (done (refused why.Depth)) d
behind_halt (over_with r) d = in_phase (done r) d

-- the operations are executed on the document, and the parser stands behind the text
abbrev pub with_executed : Batch → List Batch → Desk → Desk
with_executed b bs d = record d {
  own = record d.own { parser = b.after; side = record d.own.side { doc = acts d.own.side.doc b.ops } };
  hand = bs;
  left = record d.left { text = drop (length b.text) d.left.text };
}

abbrev pub executes : List Batch → Desk → Desk
executes [] d = d
executes (b ∷ bs) d = behind_halt b.halt (with_executed b bs d)

-- ---- Do, with a script in hand: it runs until all that was written is used, or a script is awaited, or the parse is over

-- a piece of which nothing is left, and which carries no ending, isn't sent again
abbrev pub sent_again : List Piece → List Piece
sent_again [] = []
sent_again (x ∷ xs) = if is_empty x.text && is_none x.ending then sent_again xs else x ∷ sent_again xs

-- What was made of the text behind the script is kept: the parser stands where that text was parsed from. Or the epoch ends: that text is
-- sent again, to be parsed from where the parser now stands.
abbrev pub decided : Verdict → Parser → Serial → Desk → Desk
decided Keep held s d = record d { own = record s { parser = held }; phase = free }
decided Rewind held s d =
    let now : Parser = renewed d.realm s.parser in
    record d {
      own = record s { parser = now };
      phase = free;
      hand = [];
      left = blank;
      asked = [];
      to_send = sent_again (d.left ∷ d.asked) ++ d.to_send;
      begins = Some now;
      epoch = suc d.epoch;
      realm = suc d.realm;
    }

-- what it comes to, by the settled moment
abbrev pub Concludes : Parser → Moment → Desk → Desk → Type 0
Concludes held (reading s) d d' = (c : Verdict) × IsVerdict held s.parser c × (d' ≡ decided c held s d)
Concludes held (tag_ended i s) d d' = ⊥
Concludes held (awaits name s) d d' = d' ≡ record d { own = s; phase = waits name held }
Concludes held (over o) d d' = d' ≡ record d { own = o.last; phase = done o.result }

abbrev pub RunsOn : World → Parser → Moment → Desk → Desk → Type 0
RunsOn w held m d d' = (m' : Moment) × Settles w m m' × Concludes held m' d d'

abbrev pub DoesIn : World → Phase → Desk → Desk → Type 0
DoesIn w free d d' = d' ≡ executes d.hand d
DoesIn w (tagged i held) d d' = RunsOn w held (tag_ended i d.own) d d'
DoesIn w (waits name held) d d' = RunsOn w held (awaits name d.own) d d'
DoesIn w (done r) d d' = ⊥

abbrev pub Does : World → Desk → Desk → Type 0
Does w d d' = DoesIn w d.phase d d'

-- ---- events

-- an event that is enabled, and what it makes of the desk; Pick and Give are of the parser's side
abbrev pub Moves : ℕ → World → Event → Desk → Desk → Type 0
Moves ahead w Send d d' = IsTrue (can_send ahead d) × (d' ≡ sends d)
Moves ahead w Pick d d' = ⊥
Moves ahead w Give d d' = ⊥
Moves ahead w Take d d' = IsTrue (wants_reply d) × (d' ≡ takes w.entities d)
Moves ahead w Do d d' = IsTrue (can_do d) × Does w d d'
Moves ahead w (Arrive name) d d' = IsTrue (can_arrive name d) × (d' ≡ arrives name d)

-- enabled events one behind another
abbrev pub MovesBy : ℕ → World → List Event → Desk → Desk → Type 0
MovesBy ahead w [] d d' = d' ≡ d
MovesBy ahead w (v ∷ vs) d d' = (d1 : Desk) × Moves ahead w v d d1 × MovesBy ahead w vs d1 d'
