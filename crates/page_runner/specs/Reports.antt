-- What is reported of a page that was run: its journal is of this run, and replays in the core to this document, these lines and this outcome.
use Rattle.std.specs.Prelude.{◌≡◌, ◌⊎◌, ℕ, Bool, true, false, List, [], ◌∷◌, ◌++◌, flat_map, Option, Some, IfSome, IsSome, IsTrue, Ok}
use Rattle.outside.specs.Outside.{Call, begins, Seen}
use Rattle.outside.specs.declared.traits.Port.TheVariants.{Page}
use Rattle.standard.specs.Entities.{Entities}
use Rattle.serial.specs.Output.{line_text}
use Rattle.serial.specs.Scripts.{Fetched}
use Rattle.serial.specs.Serial.{Result}
use Rattle.core_definitions.specs.Core.{joined}
use Rattle.core_definitions.specs.Desk.{done}
use Rattle.core_definitions.specs.Journal.{Journal}
use Rattle.core_steps.specs.Journals.{found}
use Rattle.core_steps.specs.Sides.{Shown}
use Rattle.page_runner.specs.declared.status.Status.{Status}
use Rattle.page_runner.specs.declared.status.Status.TheVariants as status
use Rattle.page_turns.specs.Calls.{CallsAt}
use Rattle.page_turns.specs.Cuts.{AreCut, IsLast}
use Rattle.page_turns.specs.Given.{file_at}
use Rattle.page_turns.specs.Taken.{Took}
use Rattle.page_turns.specs.Scripts.{Folder, MayMeet, AreKnown}
use Rattle.page_turns.specs.Pages.{PageRead, page_at, world_of, ComesTo, IsPageBehind}
use Rattle.page_turns.specs.Replaying.{ReplaysTo}
use Rattle.page_turns.specs.WrittenInPart.{IsDue, WritesInPart}
use Rattle.page_runner.specs.Manner.{Manner, result_in}
use Rattle.page_runner.specs.Answers.{status_with, is_answered, IsPageOf, PageMet, MayMeetPage}

-- Memory ran out before there was a document's side: nothing of the page was read, and nothing was written.
pub record RanOutFirst (path : List ℕ) (before after : Seen) (taken taken' : Option (List ℕ)) (outcome : Status) : Type 0 where
  pub outcome_is : outcome ≡ status.NoMemory
  pub begun : CallsAt Page before after (begins path (Ok true) ∷ [])
  pub unread : IfSome (file_at before path) (λ file. after.left Page ≡ file)
  pub unwritten : taken' ≡ taken

-- Where the page was begun there is a document's side, but where memory ran out first.
abbrev pub HasSide : List ℕ → Seen → Seen → Option (List ℕ) → Option (List ℕ) → Status → Option Shown → Type 0
HasSide path before after taken taken' outcome side = after.open_at Page ≡ true → IsSome side ⊎ RanOutFirst path before after taken taken' outcome

abbrev pub has_run_out : Status → Bool
has_run_out status.NoMemory = true
has_run_out _ = false

-- Each read of the page asked for so many bytes at most, or for as many as go to one past the page's limit, and gave one of these pieces, in
-- order; but the last perhaps, which gave no byte, or behind which memory ran out.
pub record IsCutByReads (most : ℕ) (path : List ℕ) (before after : Seen) (outcome : Status) (pieces : List (List ℕ)) : Type 0 where
  pub parts : List (List ℕ)
  pub calls : List Call
  pub last : List Call
  pub made : CallsAt Page before after (begins path (Ok true) ∷ (calls ++ last))
  pub is_last : IsLast (has_run_out outcome) last
  pub cut : AreCut most [] parts calls pieces
  pub front : IfSome (file_at before path) (λ f. (rest : List ℕ) × (f ≡ Some (joined parts ++ rest)))

-- What the journal has was met outside: its pieces are a front of the page's text, and with the page's ending the whole page; and each thing
-- that came of a script may have come of it.
pub record IsMet (path : List ℕ) (folder : Folder) (before after : Seen) (j : Journal) : Type 0 where
  pub page : PageRead
  pub is_page : IsPageOf path before after page
  pub front : IsPageBehind j.ending j.pieces (page_at page)
  pub scripts : (name : List ℕ) (f : Fetched) → found name j.fetches ≡ Some f → MayMeet folder before after name f
  -- each name that was fetched is lawful, and none was twice
  pub known : AreKnown j.fetches

-- what was written is of these lines and this result, with this document
pub record IsWritten (how : Manner) (taken taken' : Option (List ℕ)) (s : Shown) (outcome : Status) : Type 0 where
  pub result : Result
  pub going : s.spent ≡ false
  pub phase : s.desk.phase ≡ done result
  pub outcome_is : outcome ≡ status_with result
  pub took : Took taken taken' (flat_map line_text s.desk.own.side.lines ++ result_in how result s.desk.own.side.doc.tree)

-- The parse is over, and this is where the serial parse of the page ended: its result, its lines and its tree.
pub record EndsAsSerial (es : Entities) (path : List ℕ) (folder : Folder) (before after : Seen) (s : Shown) : Type 0 where
  pub met : PageMet
  pub may : MayMeetPage path folder before after met
  pub comes : ComesTo (world_of es met.scripts) met.read met.outcome
  pub phase : s.desk.phase ≡ done met.outcome.result
  pub lines : s.desk.own.side.lines ≡ met.outcome.last.side.lines
  pub tree : s.desk.own.side.doc.tree ≡ met.outcome.last.side.doc.tree

-- The parse is over, all events are in the journal, and this is written behind the lines: the tree's text or dump, or the word of the refusal.
pub record IsEndText (how : Manner) (s before : Shown) (text : List ℕ) : Type 0 where
  pub same : s ≡ before
  pub result : Result
  pub going : s.spent ≡ false
  pub phase : s.desk.phase ≡ done result
  pub text_is : text ≡ result_in how result s.desk.own.side.doc.tree

-- what was to be written next where memory ran out or the sink failed: of the refused event, or at the end
abbrev pub IsDueNext : Manner → Shown → Shown → List ℕ → Type 0
IsDueNext how s before text = IsDue s before text ⊎ IsEndText how s before text

-- The document's side is of this run, and what was written is so. Where memory ran out or the sink failed the journal has the events before the
-- refused one, and perhaps that, if it is a Do: all lines of those before it were written, and behind them a front of what was to come next.
pub record Reports (es : Entities) (ahead : ℕ) (how : Manner) (path : List ℕ) (folder : Folder) (before after : Seen) (taken taken' : Option (List ℕ)) (s : Shown) (outcome : Status) : Type 0 where
  pub entities : s.entities ≡ es
  pub ahead_is : s.ahead ≡ ahead
  pub met : IsMet path folder before after s.journal
  pub replays : ReplaysTo es ahead s
  pub written : IsTrue (is_answered outcome) → IsWritten how taken taken' s outcome
  pub ended : IsTrue (is_answered outcome) → EndsAsSerial es path folder before after s
  pub in_part : is_answered outcome ≡ false → WritesInPart es ahead taken taken' (IsDueNext how s)
