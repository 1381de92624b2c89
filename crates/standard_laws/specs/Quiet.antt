-- What is proved of texts that are read through, and of the parse of a page whose scripts don't run.
use Rattle.std.specs.Prelude.{◌≡◌, ℕ, List, ◌++◌, drop}
use Rattle.html_types.specs.declared.instruction.Stop.{Stop}
use Rattle.html_types.specs.declared.instruction.Stop.TheVariants as stop
use Rattle.html_types.specs.declared.operation.NodeId.{NodeId}
use Rattle.html_types.specs.declared.operation.Op.{Op}
use Rattle.standard.specs.Entities.{Entities}
use Rattle.standard.specs.Prepare.{still}
use Rattle.serial.specs.Page.{Page}
use Rattle.standard.specs.Parser.{Parser, Parsed, parse}
use Rattle.standard.specs.Through.{Through, through, deep, after_those, read_through}
use Rattle.serial.specs.Quiet.{Quiet, tree, quiet}
use Rattle.serial.specs.Quiet as quietly
use Rattle.serial.specs.Serial.{World, Serial, Outcome, IsSerial, Passes, tag_ended, prepared, finished, refused}

-- ---- by the parses between scripts

-- where a text is read on from a stop, behind so many characters
abbrev pub on_from : Entities → List ℕ → List Op → Parser → ℕ → Stop → Through
on_from es text ops p used stop.InputEnd = through ops p
on_from es text ops p used (stop.Script i) = after_those ops (read_through es p (drop used text))
on_from es text ops p used stop.Deep = deep

abbrev pub on_behind : Entities → List ℕ → Parsed → Through
on_behind es text r = on_from es text r.ops r.parser r.used r.stop

-- up to the first stop as any text is parsed, and then on
abbrev pub ThroughByParse : Type 0
ThroughByParse = (es : Entities) (p : Parser) (text : List ℕ) → read_through es p text ≡ on_behind es text (parse es p text)

-- ---- texts in pieces

abbrev pub go_through : Through → (Parser → Through) → Through
go_through (through ops p) rest = after_those ops (rest p)
go_through deep rest = deep

abbrev pub ThroughInPieces : Type 0
ThroughInPieces = (es : Entities) (p : Parser) (x y : List ℕ) → read_through es p (x ++ y) ≡ go_through (read_through es p x) (λ q. read_through es q y)

-- ---- a page none of whose scripts runs

-- each script whose end tag the parse of the page meets doesn't run
abbrev pub RunsNoScript : Page → World → Type 0
RunsNoScript page w = (i : NodeId) (s : Serial) → Passes page w (tag_ended i s) → prepared i s ≡ still

-- the outcome is that document, or that refusal
abbrev pub ComesTo : Outcome → Quiet → Type 0
ComesTo o (tree d) = (o.result ≡ finished) × (o.last.side.doc ≡ d)
ComesTo o (quietly.refused why) = o.result ≡ refused why

-- its serial parse is the one in which scripts don't run
abbrev pub QuietIsSerial : Type 0
QuietIsSerial = (page : Page) (w : World) → RunsNoScript page w → (o : Outcome) → IsSerial page w o → ComesTo o (quiet w.entities page)
