-- The run of a page on one thread: what is under way, and what holds between two turns.
use Rattle.std.specs.Prelude.{◌≡◌, ◌≤◌, ◌<◌, ◌+◌, ◌-◌, ◌*◌, ◌⊎◌, ℕ, suc, Bool, true, false, List, [], ◌++◌, length, flat_map, Option, Some, None, IsSome}
use Rattle.std.specs.List.{AllByRecursion}
use Rattle.html_types.specs.declared.ending.Ending.{Ending}
use Rattle.serial.specs.declared.script.Line.{Line}
use Rattle.outside.specs.Outside.{Seen}
use Rattle.outside.specs.declared.traits.Port.TheVariants as port
use Rattle.standard.specs.Entities.{Entities}
use Rattle.serial.specs.Output.{line_text}
use Rattle.standard.specs.Parser.{Parser}
use Rattle.serial.specs.Scripts.{Fetched, faulted}
use Rattle.core_definitions.specs.declared.event.Event.{Event}
use Rattle.core_definitions.specs.declared.event.Event.TheVariants as event
use Rattle.core_definitions.specs.Batches.{Piece}
use Rattle.core_definitions.specs.Core.{Request, joined}
use Rattle.core_definitions.specs.Desk.{Phase, free, tagged, waits, done, Desk, with_more}
use Rattle.core_definitions.specs.Journal.{Journal}
use Rattle.core_definitions.specs.StandsFor.{text_of}
use Rattle.core_steps.specs.Fetches.{names_of}
use Rattle.core_steps.specs.Journals.{found}
use Rattle.core_steps.specs.Sides.{Shown, journaled, with_fetch, DoesShow, IsReplayed, Standing, awaiting, standing_of, left_to_do}
use Rattle.page_turns.specs.declared.page.TheConstants.{PAGE_LIMIT}
use Rattle.parse_machine.specs.declared.end.End.{End}
use Rattle.page_turns.specs.declared.scripts.TheConstants.{SCRIPT_LIMIT}
use Rattle.page_turns.specs.declared.reader.PageReader.{PageReader}
use Rattle.page_turns.specs.Calls.{ReadWithin, EachWithin}
use Rattle.page_turns.specs.Given.{NoFault, KeepsEntities}
use Rattle.page_turns.specs.Taken.{Took, TookFront}
use Rattle.page_turns.specs.Scripts.{Folder, Met, IsGiven, MayMeet, BeginsFile, Fetches, AreKnown, ReadScriptsTo, NamesOnce}
use Rattle.page_turns.specs.Early.{GivesOneMore, IsNew}
use Rattle.parse_machine.specs.Ends.{result_of}
use Rattle.page_turns.specs.Along.{Goes}
use Rattle.page_turns.specs.Pages.{PageOpen, PageFor, PageAt, ReadsOn}
use Rattle.page_turns.specs.WrittenInPart.{IsDue, WritesInPart}

-- ---- what is under way

-- how many requests stand, are in the parser's side's hand, and replies stand
pub record Load : Type 0 where
  pub requests : ℕ
  pub hand : ℕ
  pub replies : ℕ

abbrev pub no_load : Load
no_load = record { requests = 0; hand = 0; replies = 0 }

abbrev pub in_hand : Option Request → ℕ
in_hand None = 0
in_hand (Some r) = 1

abbrev pub under_way : Load → ℕ
under_way l = l.requests + l.hand + l.replies

-- each event of the parser's side makes it less
abbrev pub weight_of : Load → ℕ
weight_of l = 3 * l.requests + 2 * l.hand + l.replies

-- an event of the parser's side, or none is enabled
abbrev pub Answers : Bool → Load → Load → Type 0
Answers true old new = (under_way new ≡ under_way old) × (weight_of new < weight_of old)
Answers false old new = (new ≡ old) × (old.requests ≡ 0) × (old.hand ≡ 0)

-- A request more is under way.
pub record Asks (old new : Load) : Type 0 where
  pub one : under_way new ≡ suc (under_way old)
  pub weight : weight_of new ≤ weight_of old + 3

-- ---- reading on

abbrev pub while_open : Option Ending → ℕ
while_open None = 9
while_open (Some e) = 0

-- Pieces of the page were handed in, or its ending, or both.
pub record Handed (reader reader' : PageReader) (old new : Shown) : Type 0 where
  pub pieces : List Piece
  pub desk : new.desk ≡ with_more pieces old.desk
  pub text : joined new.journal.pieces ≡ joined old.journal.pieces ++ text_of pieces
  pub within : length (joined new.journal.pieces) ≤ PAGE_LIMIT
  pub others : new ≡ record old { desk = new.desk; journal = record old.journal { pieces = new.journal.pieces; ending = new.journal.ending } }
  pub less : 9 * reader'.left + while_open new.journal.ending + 4 * length pieces < 9 * reader.left + 9

-- From wherever the page stood it is read on.
pub record ReadsPiece (now after : Seen) (reader reader' : PageReader) (old new : Shown) : Type 0 where
  pub handed : Handed reader reader' old new
  pub at : (before : Seen) → PageOpen before now reader old.journal.pieces → PageAt before after reader' new.journal.pieces new.journal.ending

-- Memory ran out: a piece was handed in, or none, and the page goes on from the pieces, wherever it stood.
pub record ReadsInPart (now after : Seen) (reader : PageReader) (old new : Shown) : Type 0 where
  pub at : (before : Seen) → PageOpen before now reader old.journal.pieces → PageFor before after new.journal.pieces None
  pub own : new.desk.own ≡ old.desk.own
  pub others : new ≡ record old { desk = new.desk; journal = record old.journal { pieces = new.journal.pieces }; spent = new.spent }

-- Nothing was read or fetched: whatever else changed, the journal is as it was but for the events.
abbrev pub StaysRead : Shown → Shown → Type 0
StaysRead old new = new ≡ record old { desk = new.desk; given = new.given; journal = record old.journal { events = new.journal.events }; spent = new.spent }

-- ---- running on

-- A Do, and the sink took the lines of its script.
pub record RunsOn (taken taken' : Option (List ℕ)) (old new : Shown) : Type 0 where
  pub does : DoesShow old.entities old.journal.fetches old.desk new.desk
  pub others : new ≡ record (journaled event.Do new.desk old) { given = new.desk.own.side.lines }
  pub less : left_to_do new.desk < left_to_do old.desk
  pub more : List Line
  pub lines : new.desk.own.side.lines ≡ old.given ++ more
  pub took : Took taken taken' (flat_map line_text more)

-- Memory ran out or the sink failed: before its lines were taken, or when a front of them was written.
pub data RunsInPart (taken taken' : Option (List ℕ)) (old new : Shown) : Type 0 where
  unwritten : taken' ≡ taken → RunsInPart taken taken' old new
  part_written : (more : List Line) → new ≡ record (journaled event.Do new.desk old) { given = new.desk.own.side.lines } → new.desk.own.side.lines ≡ old.given ++ more
      → TookFront taken taken' (flat_map line_text more) → RunsInPart taken taken' old new

-- Nothing was begun but the script that is awaited.
abbrev pub BeginsTheAwaited : List ℕ → Seen → Seen → Desk → Type 0
BeginsTheAwaited dir before after d = (name : List ℕ) × (standing_of d ≡ awaiting name) × BeginsFile dir name before after

-- A script that was awaited has arrived.
pub record Arrives (o : Folder) (before after : Seen) (old new : Shown) : Type 0 where
  pub name : List ℕ
  pub fetch : Fetched
  pub awaits : standing_of old.desk ≡ awaiting name
  pub given : MayMeet o before after name fetch
  pub faults : NoFault port.Script before after ⊎ (fetch ≡ faulted)
  pub arrived : new ≡ with_fetch name fetch old

-- One of these was done where a script is awaited: it has arrived from its file; an answer of those who fetch early was taken, and the script
-- that it is of has arrived, which may be another; or the answer says nothing. How much was given before stands beside the folder, and how many
-- answers are to come, before and behind.
pub data Brings (o : Folder) (before after : Seen) (given : Met) (n n' : ℕ) (old new : Shown) : Type 0 where
  from_file : Arrives o before after old new → o.given ≡ given → n' ≤ n → Brings o before after given n n' old new
  came_early : (name : List ℕ) (f : Fetched) → GivesOneMore name f given o.given → IsNew name old.journal.fetches → after ≡ before → new ≡ with_fetch name f old → n' < n
      → Brings o before after given n n' old new
  said_nothing : after ≡ before → o.given ≡ given → new ≡ old → n' < n → Brings o before after given n n' old new

-- ---- between two turns

-- as it was when fewer events had been made
abbrev pub earlier : List Event → Desk → Shown → Shown
earlier events d s = record s { desk = d; journal = record s.journal { events = events } }

-- The parse stopped at a script whose fetch had failed: it was awaited before the last event.
pub record StoppedAt (s : Shown) : Type 0 where
  pub name : List ℕ
  pub held : Parser
  pub events : List Event
  pub desk : Desk
  pub awaited : desk.phase ≡ waits name held
  pub failed : found name s.journal.fetches ≡ Some faulted
  pub replayed : IsReplayed (earlier events desk s)

-- A fetch of a script failed only where the parse stops at it.
abbrev pub StopsIn : Phase → Shown → Type 0
StopsIn free s = ⊥
StopsIn (tagged i held) s = ⊥
StopsIn (waits name held) s = found name s.journal.fetches ≡ Some faulted
StopsIn (done r) s = StoppedAt s

-- what was met outside since before
pub record Outside (o : Folder) (before now : Seen) (reader : PageReader) (j : Journal) : Type 0 where
  pub page : PageAt before now reader j.pieces j.ending
  pub begun : now.begun port.Page ≡ before.begun port.Page
  pub open_at : now.open_at port.Page ≡ before.open_at port.Page
  pub fetches : Fetches [] o before now [] j.fetches
  pub keeps : KeepsEntities before now

-- what the document's side and the parser's side have
pub record Inside (es : Entities) (ahead : ℕ) (l : Load) (s : Shown) : Type 0 where
  pub entities : s.entities ≡ es
  pub ahead_is : s.ahead ≡ ahead
  pub going : s.spent ≡ false
  pub known : AreKnown s.journal.fetches
  pub arrived : s.desk.arrived ≡ names_of s.journal.fetches
  pub within : length (joined s.journal.pieces) ≤ PAGE_LIMIT
  pub count : under_way l + s.desk.taken ≡ s.desk.sent
  pub credit : under_way l ≤ ahead
  pub asked : length s.desk.asked ≤ under_way l
  pub lines : s.desk.own.side.lines ≡ s.given

pub record Holds (es : Entities) (ahead : ℕ) (o : Folder) (before now : Seen) (taken taken' : Option (List ℕ)) (reader : PageReader) (l : Load) (s : Shown) : Type 0 where
  pub outside : Outside o before now reader s.journal
  pub inside : Inside es ahead l s
  -- what was given early has arrived
  pub early : (name : List ℕ) (f : Fetched) → IsGiven name f o.given → IsSome (found name s.journal.fetches)
  pub faults : NoFault port.Script before now ⊎ StopsIn s.desk.phase s
  pub took : Took taken taken' (flat_map line_text s.given)

-- ---- a measure of what is to come

abbrev pub while_awaiting : Standing → ℕ
while_awaiting (awaiting name) = 1
while_awaiting _ = 0

-- Each Do makes it less, and reading on doesn't make it more.
abbrev pub text_to_come : Shown → ℕ
text_to_come s = 3 * (PAGE_LIMIT - length (joined s.journal.pieces)) + left_to_do s.desk

-- All else makes this less.
abbrev pub steps_to_come : PageReader → Load → Shown → ℕ
steps_to_come reader l s = 9 * reader.left + while_open s.journal.ending + 4 * length s.desk.to_send + weight_of l + while_awaiting (standing_of s.desk)

-- At a Do so many pieces are to be sent again at most as may be asked, and one.
abbrev pub turns_to_come : PageReader → Load → Shown → ℕ
turns_to_come reader l s = 300 * text_to_come s + steps_to_come reader l s

-- ---- where it ends

-- What was met outside and is in the journal, in any case.
pub record Leaves (es : Entities) (ahead : ℕ) (o : Folder) (before after : Seen) (s : Shown) : Type 0 where
  pub entities : s.entities ≡ es
  pub ahead_is : s.ahead ≡ ahead
  pub page : PageFor before after s.journal.pieces s.journal.ending
  -- a script that was begun and whose fetch didn't return is the one that is awaited
  pub unmet : List (List ℕ)
  pub fetches : Fetches unmet o before after [] s.journal.fetches
  pub awaited : AllByRecursion (λ name. standing_of s.desk ≡ awaiting name) unmet
  pub known : AreKnown s.journal.fetches

-- what reading a page and its scripts leaves alone, and how far it went
pub record LeavesAlone (dir : List ℕ) (before after : Seen) : Type 0 where
  pub keeps : KeepsEntities before after
  pub read : ReadsOn (PAGE_LIMIT + 1) (before.left port.Page) (after.left port.Page)
  pub begun : after.begun port.Page ≡ before.begun port.Page
  pub open_at : after.open_at port.Page ≡ before.open_at port.Page
  pub within : ReadWithin PAGE_LIMIT 0 port.Page before after
  pub scripts : ReadScriptsTo SCRIPT_LIMIT dir before after
  pub scripts_within : EachWithin SCRIPT_LIMIT port.Script before after
  pub names : NamesOnce dir (before.begun port.Script) (after.begun port.Script)

-- The sink took a front of the lines of what is shown, or was before the last events: all lines of the events before the refused one, and a front
-- of what that one was to write.
pub record GivesUp (es : Entities) (ahead : ℕ) (o : Folder) (before after : Seen) (taken taken' : Option (List ℕ)) (s : Shown) : Type 0 where
  pub left : Leaves es ahead o before after s
  pub shown : Shown
  pub replayed : IsReplayed s → IsReplayed shown
  pub leaves : Leaves es ahead o before after shown
  pub goes : Goes o.given None shown
  pub alone : LeavesAlone o.dir before after
  pub front : TookFront taken taken' (flat_map line_text shown.desk.own.side.lines)
  pub part : IsReplayed s → WritesInPart es ahead taken taken' (IsDue s)

-- The parse is over, and the sink took its lines.
pub record RunsOut (es : Entities) (ahead : ℕ) (o : Folder) (before after : Seen) (taken taken' : Option (List ℕ)) (s : Shown) (told : End) : Type 0 where
  pub leaves : Leaves es ahead o before after s
  pub alone : LeavesAlone o.dir before after
  pub phase : s.desk.phase ≡ done (result_of told)
  pub going : s.spent ≡ false
  pub faults : NoFault port.Script before after ⊎ StoppedAt s
  pub took : Took taken taken' (flat_map line_text s.desk.own.side.lines)
