-- What a writer holds, the moments of the serial parse for which that stands, and what its calls do.
use Rattle.std.specs.Prelude.{◌≡◌, ◌≢◌, ◌<◌, ◌+◌, ◌*◌, ◌-◌, ⊤, ℕ, Bool, false, List, [], ◌∷◌, ◌++◌, length, drop, Option, Some, None}
use Rattle.std.specs.Str.{chars, IsCharBoundary}
use Rattle.html_types.specs.declared.operation.NodeId.{NodeId}
use Rattle.html_types.specs.declared.ending.Ending.{Ending}
use Rattle.serial.specs.declared.script.Statement.{Statement}
use Rattle.html_types.specs.declared.ending.Why.{Why}
use Rattle.html_types.specs.declared.ending.Why.TheVariants as why
use Rattle.serial.specs.declared.script.Line.{Line}
use Rattle.serial.specs.declared.script.Line.TheVariants as line
use Rattle.html_types.specs.declared.instruction.Stop.TheVariants as stop
use Rattle.standard.specs.Entities.{Entities}
use Rattle.standard.specs.Act.{Doc, new_doc, is_bound}
use Rattle.standard.specs.Parser.{Parser, new_parser}
use Rattle.rule_laws.specs.Naming.{IsStopBound}
use Rattle.serial.specs.Serial.{World, Serial, Course, goes, refuses, awaiting, run_text, write_limit, Moment, reading, tag_ended, awaits, over, refusal}
use Rattle.core_definitions.specs.Settling.{Through}
use Rattle.standard_laws.specs.Laws.{HasParsed, EndsIn}
use Rattle.parse_machine.specs.declared.end.End.{End}
use Rattle.parse_machine.specs.declared.machine.Ran.{Ran}
use Rattle.write_parser.specs.Parsing.{HasTakenEnding}
use Rattle.write_parser.specs.declared.left.Left.{Left}
use Rattle.write_parser.specs.declared.left.Left.TheVariants as left

pub record View : Type 0 where
  pub parser : Parser
  pub doc : Doc
  -- the characters written and the scripts executed so far
  pub written : ℕ
  pub executed : ℕ
  -- the lines that scripts gave since lines were last taken
  pub lines : List Line
  -- what was written at level 0 and isn't used yet
  pub rest : List ℕ
  -- the `src` of the script that is awaited
  pub pending : Option (List ℕ)
  -- why the page is refused
  pub halted : Option Why
  -- memory ran out
  pub spent : Bool

-- at the beginning of a page, with an empty document
abbrev pub first_view : ℕ → View
first_view realm = record {
  parser = new_parser realm;
  doc = new_doc;
  written = 0;
  executed = 0;
  lines = [];
  rest = [];
  pending = None;
  halted = None;
  spent = false;
}

-- ---- the moments of the serial parse

-- the state of the serial parse at level 0, with those lines before and that text of the page behind
abbrev pub serial_of : View → List Line → List ℕ → Serial
serial_of v before page = record {
  input = v.rest ++ page;
  point = 0;
  parser = v.parser;
  side = record { doc = v.doc; level = 0; pending = None; written = v.written; executed = v.executed; lines = before ++ v.lines };
}

-- between two characters, or where a script is awaited
abbrev pub moment_by : Option (List ℕ) → Serial → Moment
moment_by None s = reading s
moment_by (Some name) s = awaits name s

abbrev pub moment_of : View → List Line → List ℕ → Moment
moment_of v before page = moment_by v.pending (serial_of v before page)

-- The parse is over, refused so, with the lines and the document of the view.
pub record IsOver (r : Why) (v : View) (before : List Line) (m : Moment) : Type 0 where
  pub last : Serial
  pub is : m ≡ over (refusal r last)
  pub lines : last.side.lines ≡ before ++ v.lines
  pub doc : last.side.doc ≡ v.doc

abbrev pub StandsBy : Option Why → View → List Line → List ℕ → Moment → Type 0
StandsBy None v before page m = m ≡ moment_of v before page
StandsBy (Some r) v before page m = IsOver r v before m

-- the view stands for the moment, with those lines before and that text of the page behind
abbrev pub Stands : View → List Line → List ℕ → Moment → Type 0
Stands v before page m = StandsBy v.halted v before page m

-- at the end tag of that script
abbrev pub AtTag : NodeId → View → List Line → List ℕ → Moment → Type 0
AtTag id v before page m = m ≡ tag_ended id (serial_of v before page)

-- From each such moment, whatever the lines before and the text of the page behind, the parse leads to one for which the view
-- stands, and no moment before that is settled. That is so in each world with these entities.
pub record LeadsTo (es : Entities) (From : List Line → List ℕ → Moment → Type 0) (new : View) : Type 0 where
  pub leads : (e : Ending) (w : World) (from : Moment) (before : List Line) (page : List ℕ) → w.entities ≡ es → From before page from →
      (to : Moment) × Stands new before page to × Through e w from to

-- ---- a text of the page

-- A text was parsed up to the first stop, and its operations were done.
pub record Parses (es : Entities) (old new : View) (text : List ℕ) (ran : Ran) : Type 0 where
  pub boundary : IsCharBoundary text ran.used
  -- a stop is behind a character
  pub onward : ran.stop ≢ stop.InputEnd → 0 < ran.used
  pub parsed : HasParsed es old.parser old.doc (chars text) new.parser new.doc (chars (drop ran.used text)) ran.stop
  pub others : new ≡ record old { parser = new.parser; doc = new.doc }
  pub bound : IsStopBound (is_bound new.doc.bound) ran.stop

-- The page's ending was taken, and its operations were done.
pub record Finishes (es : Entities) (e : Ending) (old new : View) (end : End) : Type 0 where
  pub taken : HasTakenEnding es e old.parser old.doc new.parser new.doc end
  pub others : new ≡ record old { parser = new.parser; doc = new.doc }

-- ---- scripts

-- The page is refused, with the lines and the document of the view.
pub record IsRefusal (r : Why) (v : View) (before : List Line) (f : Course) : Type 0 where
  pub last : Serial
  pub is : f ≡ refuses r last
  pub lines : last.side.lines ≡ before ++ v.lines
  pub doc : last.side.doc ≡ v.doc

abbrev pub ComesBy : Option Why → View → List Line → List ℕ → Course → Type 0
ComesBy None v before page f = f ≡ goes (awaiting v.pending (serial_of v before page))
ComesBy (Some r) v before page f = IsRefusal r v before f

-- what a part of the parse comes to, as the view has it
abbrev pub Comes : View → List Line → List ℕ → Course → Type 0
Comes v before page f = ComesBy v.halted v before page f

-- The text of a script ran, one level up: none is a text outside the language.
pub record Runs (es : Entities) (old new : View) (text : Option (List Statement)) : Type 0 where
  pub comes : (w : World) (before : List Line) (page : List ℕ) → w.entities ≡ es →
      (f : Course) × Comes new before page f × EndsIn (λ n. run_text n w text (serial_of old before page)) f

-- nothing runs once the page is refused
abbrev pub HasRun : Entities → Option Why → View → View → Option (List Statement) → Type 0
HasRun es None old new text = Runs es old new text
HasRun es (Some r) old new text = new ≡ old

-- the script that is awaited is missing
abbrev pub HasMissed : Option Why → Option (List ℕ) → View → View → Type 0
HasMissed None None old new = new ≡ old
HasMissed None (Some name) old new = new ≡ record old { lines = old.lines ++ line.Miss name ∷ []; pending = None }
HasMissed (Some r) pending old new = new ≡ old

-- ---- what is left

abbrev pub LeftIs : View → Left → Type 0
LeftIs v left.Empty = (v.halted ≡ None) × (v.pending ≡ None) × (v.rest ≡ [])
LeftIs v (left.Awaits name) = (v.halted ≡ None) × (v.pending ≡ Some name)
LeftIs v (left.Refused l) = v.halted ≡ Some l

-- where a script is awaited, or the page is refused, nothing changes
abbrev pub StaysBy : Option Why → Option (List ℕ) → View → View → Type 0
StaysBy None None old new = ⊤
StaysBy None (Some name) old new = new ≡ old
StaysBy (Some r) pending old new = new ≡ old

-- Written text was parsed, and its scripts ran, as far as it goes.
pub record Feeds (es : Entities) (old new : View) (answer : Left) : Type 0 where
  pub leads : LeadsTo es (Stands old) new
  pub left : LeftIs new answer
  pub stays : StaysBy old.halted old.pending old new

-- ---- what is left to do

-- how many scripts are awaited
abbrev pub scripts_awaited : Option (List ℕ) → ℕ
scripts_awaited None = 0
scripts_awaited (Some name) = 1

-- A measure of what is left to do before the page's own text is next: the characters that scripts may still write, those that
-- they wrote and that aren't parsed, and the script that is awaited. A character counts twice: where it ends the end tag of a
-- script, that may come to be awaited.
abbrev pub left_to_do : View → ℕ
left_to_do v = 2 * (write_limit - v.written) + 2 * length v.rest + scripts_awaited v.pending
