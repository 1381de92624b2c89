-- What is proved of the serial parse itself.
use Rattle.std.specs.Prelude.{◌≡◌, ℕ, suc, ◌+◌, ⊤, Bool, List, [], ◌++◌, drop, flat_map, Some, None}
use Rattle.html_types.specs.declared.operation.NodeId.{NodeId}
use Rattle.html_types.specs.declared.ending.Ending.{Ending}
use Rattle.html_types.specs.declared.ending.Ending.TheVariants as ending
use Rattle.html_types.specs.declared.ending.Why.{Why}
use Rattle.html_types.specs.declared.ending.Why.TheVariants as why
use Rattle.serial.specs.declared.script.Line.{Line}
use Rattle.serial.specs.declared.script.Line.TheVariants as line
use Rattle.html_types.specs.declared.instruction.Stop.{Stop}
use Rattle.html_types.specs.declared.instruction.Stop.TheVariants as stop
use Rattle.html_types.specs.declared.instruction.Finish.{Finish}
use Rattle.html_types.specs.declared.instruction.Finish.TheVariants as finale
use Rattle.standard.specs.Entities.{Entities}
use Rattle.standard.specs.Act.{Doc, acts}
use Rattle.serial.specs.Statements.{statements}
use Rattle.standard.specs.Prepare.{still, inline, external}
use Rattle.serial.specs.Scripts.{got, missing, faulted, file_statements}
use Rattle.standard.specs.Parser.{Parser, Parsed, parse, finish}
use Rattle.serial.specs.Page.{Page}
use Rattle.serial.specs.Serial.{World, fetched, Outcome, IsSerial, Advanced, advanced, advance, Serial, Course, goes, refuses, starved, with_line, awaiting, one_more_executed, end_of_script, prepared, run_text, Moment, reading, tag_ended, awaits, over, behind_script, finished, refusal, taken, ended, Leads, Passes}
use Rattle.serial.specs.Output.{line_text, output_with}

-- ---- outcomes

-- every page has exactly one outcome
abbrev pub HasOneOutcome : Type 0
HasOneOutcome = (page : Page) (w : World) → ((o : Outcome) × IsSerial page w o) × ((a b : Outcome) → IsSerial page w a → IsSerial page w b → a ≡ b)

-- ---- texts in pieces

abbrev pub joined : Parsed → Parsed → Parsed
joined r more = record { ops = r.ops ++ more.ops; parser = more.parser; used = r.used + more.used; stop = more.stop }

abbrev pub unless_stopped : Stop → Parsed → (Parser → Parsed) → Parsed
unless_stopped stop.InputEnd r rest = joined r (rest r.parser)
unless_stopped _ r rest = r

-- a parse of a text, and then of what follows it, unless the parser stops in the first
abbrev pub and_then : Parsed → (Parser → Parsed) → Parsed
and_then r rest = unless_stopped r.stop r rest

-- a text may come in two pieces
abbrev pub ParsesInPieces : Type 0
ParsesInPieces = (es : Entities) (p : Parser) (x y : List ℕ) → parse es p (x ++ y) ≡ and_then (parse es p x) (λ q. parse es q y)

-- ---- operations done at once, or after the text

-- what was parsed of a text, its operations done on a document
abbrev pub executed : Doc → List ℕ → Parsed → Advanced
executed d text r = advanced r.parser (acts d r.ops) (drop r.used text) r.stop

-- it makes no difference whether each operation is done at once or all of them after the text
abbrev pub AdvancesByParse : Type 0
AdvancesByParse = (es : Entities) (p : Parser) (d : Doc) (text : List ℕ) → advance es p d text ≡ executed d text (parse es p text)

-- ---- a front of the page

-- where the parse of a front of the input comes to from s: the parser, the document and the input are then those
abbrev pub moment_at : Serial → Parser → Doc → List ℕ → Stop → Moment
moment_at s p d input stop.InputEnd = reading (taken p d input s)
moment_at s p d input (stop.Script i) = tag_ended i (taken p d input s)
moment_at s p d input stop.Deep = over (refusal why.Depth (taken p d input s))

-- What a parser that stood at p has made of the text x, on the document d: where it then stands, the document with its
-- operations done, the characters that it didn't use, and why it stopped.
pub record HasParsed (es : Entities) (p : Parser) (d : Doc) (x : List ℕ) (p' : Parser) (d' : Doc) (x' : List ℕ) (stopped : Stop) : Type 0 where
  pub parser : p' ≡ (parse es p x).parser
  pub doc : d' ≡ acts d (parse es p x).ops
  pub left : x' ≡ drop (parse es p x).used x
  pub stop : stopped ≡ (parse es p x).stop

-- a parse leaves nothing of its text unless it stops
abbrev pub LeavesNothing : Type 0
LeavesNothing = (es : Entities) (p p' : Parser) (d d' : Doc) (x left : List ℕ) → HasParsed es p d x p' d' left stop.InputEnd → left ≡ []

-- What is parsed of a front x of the input leads from one moment of the serial parse to another.
abbrev pub BatchesLead : Type 0
BatchesLead = (e : Ending) (w : World) (m : Moment) (s : Serial) (x rest : List ℕ) (p : Parser) (d : Doc) (left : List ℕ) (stopped : Stop) →
    Leads e w m (reading s) → s.input ≡ x ++ rest → HasParsed w.entities s.parser s.side.doc x p d left stopped → Leads e w m (moment_at s p d (left ++ rest) stopped)

-- The same where the parser uses all of x.
abbrev pub WholeBatchesLead : Type 0
WholeBatchesLead = (e : Ending) (w : World) (m : Moment) (s : Serial) (x rest : List ℕ) (p : Parser) (d : Doc) (left : List ℕ) →
    Leads e w m (reading s) → s.input ≡ x ++ rest → HasParsed w.entities s.parser s.side.doc x p d left stop.InputEnd → Leads e w m (reading (taken p d rest s))

-- ---- the end of the page

-- where the input is used the parse is over
abbrev pub EndLeads : Type 0
EndLeads = (e : Ending) (w : World) (m : Moment) (s : Serial) → Leads e w m (reading s) → s.input ≡ [] → Leads e w m (over (ended w.entities e s))

-- What a parser that stood at p has made of the end of the input, on the document d.
pub record HasFinished (es : Entities) (p : Parser) (d : Doc) (p' : Parser) (d' : Doc) (finished : Finish) : Type 0 where
  pub parser : p' ≡ (finish es p).parser
  pub doc : d' ≡ acts d (finish es p).ops
  pub finish : finished ≡ (finish es p).finish

-- what the parse comes to at the end of a page that ends well
abbrev pub outcome_at : Serial → Parser → Doc → Finish → Outcome
outcome_at s p d finale.Finished = record { result = finished; last = taken p d [] s }
outcome_at s p d finale.Deep = refusal why.Depth (taken p d [] s)

abbrev pub FinishLeads : Type 0
FinishLeads = (w : World) (m : Moment) (s : Serial) (p : Parser) (d : Doc) (f : Finish) →
    Leads ending.End w m (reading s) → s.input ≡ [] → HasFinished w.entities s.parser s.side.doc p d f → Leads ending.End w m (over (outcome_at s p d f))

-- the parse of a page comes to the outcome of the moment at which it is over
abbrev pub OverIsSerial : Type 0
OverIsSerial = (page : Page) (w : World) (o : Outcome) → Passes page w (over o) → IsSerial page w o

-- ---- scripts

-- a part of the parse that ran to its end
abbrev pub HasEnded : Course → Type 0
HasEnded starved = ⊥
HasEnded _ = ⊤

-- With fuel enough it runs to its end, and comes to that.
abbrev pub EndsIn : (ℕ → Course) → Course → Type 0
EndsIn run f = (n : ℕ) × (run n ≡ f) × HasEnded f

-- what a script whose end tag was met comes to; level and insertion point are then again those of s
abbrev pub ScriptComesTo : World → NodeId → Serial → Course → Type 0
ScriptComesTo w i s = EndsIn (λ n. end_of_script n w i s)

-- The moment behind a script: it comes to that moment, or the parse is over.
abbrev pub ScriptLeads : Type 0
ScriptLeads = (e : Ending) (w : World) (m : Moment) (i : NodeId) (s t : Serial) →
    Leads e w m (tag_ended i s) → ScriptComesTo w i s (goes t) → Leads e w m (behind_script t)

abbrev pub ScriptRefuses : Type 0
ScriptRefuses = (e : Ending) (w : World) (m : Moment) (i : NodeId) (s t : Serial) (r : Why) →
    Leads e w m (tag_ended i s) → ScriptComesTo w i s (refuses r t) → Leads e w m (over (refusal r t))

-- a script that doesn't run
abbrev pub StillScripts : Type 0
StillScripts = (w : World) (i : NodeId) (s : Serial) → prepared i s ≡ still → ScriptComesTo w i s (goes s)

-- an external script
abbrev pub ExternalScripts : Type 0
ExternalScripts = (w : World) (i : NodeId) (s : Serial) (name : List ℕ) → prepared i s ≡ external name →
    ScriptComesTo w i s (goes (awaiting (Some name) s))

-- a text that isn't in the language
abbrev pub SyntaxErrors : Type 0
SyntaxErrors = (w : World) (i : NodeId) (s : Serial) (t : List ℕ) → prepared i s ≡ inline t → statements t ≡ None →
    ScriptComesTo w i s (goes (with_line (line.Syntax (suc s.side.executed)) (one_more_executed s)))

-- ---- a script that is awaited

abbrev pub AwaitsMissing : Type 0
AwaitsMissing = (e : Ending) (w : World) (m : Moment) (name : List ℕ) (s : Serial) →
    Leads e w m (awaits name s) → fetched w name ≡ missing → Leads e w m (reading (with_line (line.Miss name) s))

abbrev pub AwaitsFault : Type 0
AwaitsFault = (e : Ending) (w : World) (m : Moment) (name : List ℕ) (s : Serial) →
    Leads e w m (awaits name s) → fetched w name ≡ faulted → Leads e w m (over (refusal why.Fault s))

-- what a file of these bytes comes to; level and insertion point are then again those of s
abbrev pub FileComesTo : World → List ℕ → Serial → Course → Type 0
FileComesTo w bytes s = EndsIn (λ n. run_text n w (file_statements bytes) s)

abbrev pub AwaitsGot : Type 0
AwaitsGot = (e : Ending) (w : World) (m : Moment) (name bytes : List ℕ) (s t : Serial) →
    Leads e w m (awaits name s) → fetched w name ≡ got bytes → FileComesTo w bytes s (goes t) → Leads e w m (behind_script t)

abbrev pub AwaitsRefuses : Type 0
AwaitsRefuses = (e : Ending) (w : World) (m : Moment) (name bytes : List ℕ) (s t : Serial) (r : Why) →
    Leads e w m (awaits name s) → fetched w name ≡ got bytes → FileComesTo w bytes s (refuses r t) → Leads e w m (over (refusal r t))

-- a file that isn't in the language
abbrev pub FileSyntaxErrors : Type 0
FileSyntaxErrors = (w : World) (bytes : List ℕ) (s : Serial) → file_statements bytes ≡ None →
    FileComesTo w bytes s (goes (with_line (line.Syntax (suc s.side.executed)) (one_more_executed s)))

-- ---- lines

-- the second list goes on from the first
abbrev pub GoesOnFrom : List Line → List Line → Type 0
GoesOnFrom a b = (more : List Line) × (b ≡ a ++ more)

abbrev pub lines_of : Moment → List Line
lines_of (reading s) = s.side.lines
lines_of (tag_ended i s) = s.side.lines
lines_of (awaits name s) = s.side.lines
lines_of (over o) = o.last.side.lines

-- the lines of every moment that a parse passes through begin those of its outcome
abbrev pub LinesBegin : Type 0
LinesBegin = (page : Page) (w : World) (m : Moment) (o : Outcome) → Passes page w m → IsSerial page w o → GoesOnFrom (lines_of m) o.last.side.lines

-- what is written for them begins what is written for the page, with the dump of the tree or without
abbrev pub OutputBegins : Type 0
OutputBegins = (dump : Bool) (page : Page) (w : World) (m : Moment) (o : Outcome) → Passes page w m → IsSerial page w o →
    (rest : List ℕ) × (output_with dump o ≡ flat_map line_text (lines_of m) ++ rest)
