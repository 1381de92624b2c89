-- The parse of a page whose scripts don't run: its document, or why it is refused. The scripting flag is on.
use Rattle.std.specs.Prelude.{List, Option, Some, None}
use Rattle.html_types.specs.declared.operation.Op.{Op}
use Rattle.html_types.specs.declared.ending.Ending.{Ending}
use Rattle.html_types.specs.declared.ending.Ending.TheVariants as ending
use Rattle.html_types.specs.declared.ending.Why.{Why}
use Rattle.html_types.specs.declared.ending.Why.TheVariants as why
use Rattle.standard.specs.Entities.{Entities}
use Rattle.standard.specs.Act.{Doc, new_doc, acts}
use Rattle.serial.specs.Page.{Page}
use Rattle.standard.specs.Parser.{new_parser}
use Rattle.standard.specs.Through.{Through, through, deep, read_through, with_end}

-- its document, or why it is refused
pub data Quiet : Type 0 where
  tree : Doc → Quiet
  refused : Why → Quiet

-- the operations done on a document
abbrev pub made : Doc → Option (List Op) → Quiet
made d (Some ops) = tree (acts d ops)
made d None = refused why.Depth

-- an ending that refuses the page, behind a text that may do so before
abbrev pub refused_behind : Through → Why → Quiet
refused_behind (through ops p) w = refused w
refused_behind deep w = refused why.Depth

-- what a text and the page's ending behind it come to, from that document on
abbrev pub ended_quietly : Entities → Doc → Ending → Through → Quiet
ended_quietly es d ending.End t = made d (with_end es t)
ended_quietly es d ending.Bad t = refused_behind t why.BadUtf8
ended_quietly es d ending.Long t = refused_behind t why.Page
ended_quietly es d ending.Fault t = refused_behind t why.Fault

unfoldable pub quiet : Entities → Page → Quiet
quiet es page = ended_quietly es new_doc page.ending (read_through es (new_parser 0) page.text)
