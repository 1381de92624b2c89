-- What a parser stands for that was fed a page's first bytes, in whatever pieces.
use Rattle.std.specs.Prelude.{◌≡◌, ℕ, Bool, true, false, List, ◌++◌, Option, Some, None}
use Rattle.html_types.specs.declared.operation.Op.{Op}
use Rattle.html_types.specs.declared.ending.Ending.{Ending}
use Rattle.html_types.specs.declared.ending.Ending.TheVariants as ending
use Rattle.html_types.specs.declared.ending.Why.{Why}
use Rattle.html_types.specs.declared.ending.Why.TheVariants as why
use Rattle.standard.specs.Entities.{Entities}
use Rattle.standard.specs.Act.{Doc, new_doc, acts}
use Rattle.standard.specs.Parser.{Parser, new_parser}
use Rattle.standard.specs.Through.{Through, through, deep, read_through}
use Rattle.serial.specs.Page.{text_of, shown}
use Rattle.utf8_pieces.specs.Decoder.{HasRead}
use Rattle.html_document.specs.declared.feeding.TheConstants.{PAGE_LIMIT}
use Rattle.html_document.specs.Stage.{Stage, IsServed}

-- From that document on, what is read through came to where the parser and the document stand; or to a push that would open element 513.
abbrev pub CameTo : Through → Doc → Parser → Doc → Bool → Type 0
CameTo t d p' d' true = ((ops : List Op) × (t ≡ through ops p') × (d' ≡ acts d ops)) × IsServed p' d'
CameTo t d p' d' false = t ≡ deep

-- Wherever what came before began, it came to the one state, and with the text behind it to the other.
abbrev pub Furthers : Entities → Parser → Doc → Bool → List ℕ → Parser → Doc → Bool → Type 0
Furthers es p d went_on text p' d' goes_on = (first : Parser) (before : List ℕ) (start : Doc) → CameTo (read_through es first before) start p d went_on
    → CameTo (read_through es first (before ++ text)) start p' d' goes_on

-- the parser was fed these bytes, with the entities in force
pub record HasFed (es : Entities) (s : Stage) (read : List ℕ) : Type 0 where
  pub lasts : s.spent ≡ false
  pub entities : s.entities ≡ es
  pub bytes : HasRead PAGE_LIMIT s.decoder read
  pub came : CameTo (read_through es (new_parser 0) (text_of PAGE_LIMIT read)) new_doc s.parser s.doc s.goes_on

-- ---- a refusal, as soon as it is known

abbrev pub goes_through : Through → Bool
goes_through (through ops p) = true
goes_through deep = false

abbrev pub refused_at : Ending → Option Why
refused_at ending.End = None
refused_at ending.Bad = Some why.BadUtf8
refused_at ending.Long = Some why.Page
refused_at ending.Fault = Some why.Fault

abbrev pub refusal_at : Option Ending → Option Why
refusal_at None = None
refusal_at (Some e) = refused_at e

-- behind a text that is read through or not, at the ending that the bytes show
abbrev pub shown_refusal : Bool → Option Ending → Option Why
shown_refusal true e = refusal_at e
shown_refusal false e = Some why.Depth

-- why a page that begins with these bytes is refused, where they show it
abbrev pub refused_so_far : Entities → List ℕ → Option Why
refused_so_far es read = shown_refusal (goes_through (read_through es (new_parser 0) (text_of PAGE_LIMIT read))) (shown PAGE_LIMIT read)
