-- A page as it is read, and what its parse comes to.
use Rattle.std.specs.Prelude.{◌≡◌, ◌≤◌, ◌+◌, ◌⊎◌, ℕ, Bool, true, false, List, [], ◌∷◌, ◌++◌, length, map, flat_map, Option, Some, None, IfSome, Result}
use Rattle.std.specs.List.{AllByRecursion}
use Rattle.html_types.specs.declared.ending.Ending.{Ending}
use Rattle.html_types.specs.declared.ending.Why.TheVariants as why
use Rattle.outside.specs.Outside.{Seen, Begun}
use Rattle.outside.specs.declared.traits.Port.TheVariants as port
use Rattle.standard.specs.Entities.{Entities}
use Rattle.serial.specs.Page.{Page, page_of, text_of, ending_of, shown}
use Rattle.serial.specs.Scripts.{Fetched, faulted}
use Rattle.standard.specs.Act.{Doc}
use Rattle.serial.specs.Serial.{World, fetched, Serial, Outcome, refusal, awaits, IsSerial, Passes}
use Rattle.serial.specs.Output.{line_text, output_with}
use Rattle.serial.specs.declared.script.Line.{Line}
use Rattle.utf8_pieces.specs.Decoder.{HasRead}
use Rattle.core_definitions.specs.Core.{joined}
use Rattle.page_turns.specs.declared.page.TheConstants.{PAGE_LIMIT}
use Rattle.parse_machine.specs.declared.end.End.{End}
use Rattle.page_turns.specs.declared.reader.PageReader.{PageReader}
use Rattle.outside.specs.Outside.{Call, reads}
use Rattle.outside.specs.declared.traits.Failed.{Failed}
use Rattle.page_turns.specs.Calls.{CallsAt, AreReads, given_first, ReadWithin, has_failed, GaveNone}
use Rattle.page_turns.specs.Given.{FaultsRose, NoFault}
use Rattle.page_turns.specs.Taken.{Took, TookFront}
use Rattle.page_turns.specs.Scripts.{Folder, AreScriptsOf, path_of}
use Rattle.parse_machine.specs.Ends.{result_of}

-- what the reads of a page gave, and whether a read behind that failed
pub record PageRead : Type 0 where
  pub bytes : List ℕ
  pub fault : Bool

-- the page as the parse reads it
abbrev pub page_at : PageRead → Page
page_at read = page_of PAGE_LIMIT read.bytes read.fault

abbrev pub world_of : Entities → (List ℕ → Fetched) → World
world_of es scripts = record { entities = es; scripts = scripts }

-- The serial parse of the page comes to this outcome: of each page to one, and to no other.
abbrev pub ComesTo : World → PageRead → Outcome → Type 0
ComesTo w read o = IsSerial (page_at read) w o

-- ---- what is read at a port

-- These bytes were read of what the port had, where that is told, and it has left the rest.
pub record AreTaken (whole left : Option (List ℕ)) (read : List ℕ) : Type 0 where
  pub so_far : IfSome whole (λ all. (rest : List ℕ) × (all ≡ read ++ rest) × (left ≡ Some rest))

-- The port was read on, by this many bytes at most.
pub record ReadsOn (most : ℕ) (whole left : Option (List ℕ)) : Type 0 where
  pub read : List ℕ
  pub taken : AreTaken whole left read
  pub at_most : length read ≤ most

-- So many bytes were given before a read of the page failed: what was given behind that counts for nothing.
pub record GivenFirst (before after : Seen) (bytes : List ℕ) : Type 0 where
  pub calls : List Call
  pub made : CallsAt port.Page before after calls
  pub count : length bytes ≡ given_first calls

-- The page is all that the port of the page had, where no read of it failed, or where one did what it gave before.
pub record IsReadFrom (before after : Seen) (page : PageRead) : Type 0 where
  pub all : page.fault ≡ false → IfSome (before.left port.Page) (λ bytes. bytes ≡ page.bytes)
  pub no_fault : page.fault ≡ false → NoFault port.Page before after
  pub cut : page.fault ≡ true → AreTaken (before.left port.Page) (after.left port.Page) page.bytes
  pub cause : page.fault ≡ true → FaultsRose port.Page before after
  pub first : page.fault ≡ true → GivenFirst before after page.bytes

-- The serial parse of the page awaits a script whose fetch failed, and is refused there.
pub record StopsAtScript (w : World) (page : Page) (o : Outcome) : Type 0 where
  pub name : List ℕ
  pub last : Serial
  pub awaited : Passes page w (awaits name last)
  pub failed : fetched w name ≡ faulted
  pub refused_there : o ≡ refusal why.Fault last

-- No fetch of a script failed, or the parse is refused at an awaited script whose fetch failed. (A read of the page may have failed too, that
-- was made ahead of that script.)
abbrev pub MeetsFaults : World → PageRead → Outcome → Seen → Seen → Type 0
MeetsFaults w page o before after = NoFault port.Script before after ⊎ StopsAtScript w (page_at page) o

-- ---- what a parse comes to

-- The serial parse of the page ended so, with the tree of this document and these lines, and the sink took them.
pub record Ended (w : World) (page : PageRead) (doc : Doc) (written : List Line) (taken taken' : Option (List ℕ)) (told : End) : Type 0 where
  pub outcome : Outcome
  pub comes : ComesTo w page outcome
  pub result : outcome.result ≡ result_of told
  pub tree : outcome.last.side.doc.tree ≡ doc.tree
  pub lines : outcome.last.side.lines ≡ written
  pub took : Took taken taken' (flat_map line_text outcome.last.side.lines)

-- The scripts of these names were begun, and nothing else at their port; and each of them the serial parse of the page awaits.
pub record BeginsAwaited (w : World) (page : Page) (dir : List ℕ) (before after : Seen) : Type 0 where
  pub names : List (List ℕ)
  pub begun : Begun (before.begun port.Script) (after.begun port.Script) (map (path_of dir) names)
  pub awaited : AllByRecursion (λ name. (last : Serial) × Passes page w (awaits name last)) names

-- So ended the page that was read at its port, with the scripts of the folder.
pub record EndsWithScripts (es : Entities) (o : Folder) (before after : Seen) (doc : Doc) (lines : List Line) (taken taken' : Option (List ℕ)) (told : End) : Type 0 where
  pub scripts : List ℕ → Fetched
  pub are_scripts : AreScriptsOf o before after scripts
  pub page : PageRead
  pub read_from : IsReadFrom before after page
  pub ended : Ended (world_of es scripts) page doc lines taken taken' told
  pub faults : MeetsFaults (world_of es scripts) page ended.outcome before after
  pub begins : BeginsAwaited (world_of es scripts) (page_at page) o.dir before after

-- The sink took a front of what is written of it.
pub record FrontWithScripts (es : Entities) (o : Folder) (before after : Seen) (taken taken' : Option (List ℕ)) : Type 0 where
  pub scripts : List ℕ → Fetched
  pub are_scripts : AreScriptsOf o before after scripts
  pub page : PageRead
  pub read_from : IsReadFrom before after page
  pub begins : BeginsAwaited (world_of es scripts) (page_at page) o.dir before after
  pub front : (dump : Bool) (r : Outcome) → ComesTo (world_of es scripts) page r → TookFront taken taken' (output_with dump r)

-- ---- reading on

-- Behind these bytes the page ends so: by a fault, or since the port has no more.
pub record ClosesAt (now after : Seen) (read : List ℕ) (e : Ending) : Type 0 where
  pub fault : Bool
  pub ending : e ≡ ending_of PAGE_LIMIT read fault
  pub nothing : AreTaken (now.left port.Page) (after.left port.Page) []
  pub end : fault ≡ false → IfSome (now.left port.Page) (λ rest. rest ≡ [])
  pub no_fault : fault ≡ false → NoFault port.Page now after
  pub cause : fault ≡ true → FaultsRose port.Page now after
  -- by one read more
  pub most : ℕ
  pub answer : Result ℕ Failed
  pub made : CallsAt port.Page now after (reads most answer ∷ [])
  pub gave_none : GaveNone answer
  pub failed : fault ≡ has_failed answer

-- The reader has read these bytes, which show no ending, and the pieces are their text.
pub record IsReading (reader : PageReader) (pieces : List (List ℕ)) : Type 0 where
  pub read : List ℕ
  pub decoded : HasRead PAGE_LIMIT reader.decoder read
  pub open_yet : shown PAGE_LIMIT read ≡ None
  pub text : joined pieces ≡ text_of PAGE_LIMIT read
  pub left_is : reader.left + length read ≡ PAGE_LIMIT + 1

-- It has read nothing.
pub record IsUnread (reader : PageReader) : Type 0 where
  pub decoded : HasRead PAGE_LIMIT reader.decoder []
  pub left : reader.left ≡ PAGE_LIMIT + 1

-- So far no read failed.
pub record PageOpen (before now : Seen) (reader : PageReader) (pieces : List (List ℕ)) : Type 0 where
  pub reading : IsReading reader pieces
  pub so_far : AreTaken (before.left port.Page) (now.left port.Page) reading.read
  pub quiet : NoFault port.Page before now
  pub calls : List Call
  pub made : CallsAt port.Page before now calls
  pub reads_all : AreReads calls
  pub count : length reading.read ≡ given_first calls

-- The page goes on from the pieces, where its ending wasn't read, and is theirs where it was.
abbrev pub IsPageBehind : Option Ending → List (List ℕ) → Page → Type 0
IsPageBehind None pieces page = (more : List ℕ) × (page.text ≡ joined pieces ++ more)
IsPageBehind (Some e) pieces page = page ≡ record { text = joined pieces; ending = e }

-- The page that was read at its port goes on so.
pub record PageFor (before now : Seen) (pieces : List (List ℕ)) (ending : Option Ending) : Type 0 where
  pub page : PageRead
  pub read_from : IsReadFrom before now page
  pub is : IsPageBehind ending pieces (page_at page)
  pub read : ReadsOn (PAGE_LIMIT + 1) (before.left port.Page) (now.left port.Page)
  pub within : ReadWithin PAGE_LIMIT 0 port.Page before now

-- what was read, as the pieces and the ending tell it
abbrev pub PageAt : Seen → Seen → PageReader → List (List ℕ) → Option Ending → Type 0
PageAt before now reader pieces None = PageOpen before now reader pieces
PageAt before now reader pieces (Some e) = PageFor before now pieces (Some e)
