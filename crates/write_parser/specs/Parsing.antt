-- What the machine and the document do together.
use Rattle.std.specs.Prelude.{◌≡◌, ◌≢◌, ◌<◌, ℕ, List, length, drop}
use Rattle.std.specs.Str.{chars, IsCharBoundary}
use Rattle.html_types.specs.declared.instruction.Stop.{Stop}
use Rattle.html_types.specs.declared.instruction.Stop.TheVariants as stop
use Rattle.html_types.specs.declared.ending.Ending.{Ending}
use Rattle.standard.specs.Entities.{Entities}
use Rattle.standard.specs.Act.{Doc, acts, is_bound}
use Rattle.standard.specs.Parser.{Parser}
use Rattle.rule_laws.specs.Naming.{Serves, AreFresh, IsStopBound}
use Rattle.standard_laws.specs.Laws.{HasParsed}
use Rattle.core_definitions.specs.Batches.{end_batch, over_with}
use Rattle.parse_machine.specs.declared.end.End.{End}
use Rattle.parse_machine.specs.declared.machine.Ran.{Ran}
use Rattle.parse_machine.specs.Ends.{result_of}

-- The ids that the parser holds are bound in the document, and those that it is to give aren't.
abbrev pub IsServed : Parser → Doc → Type 0
IsServed p d = Serves AreFresh (is_bound d.bound) p.open_state

-- A text was parsed up to the first stop, and its operations were done.
pub record TextParsed (es : Entities) (p : Parser) (d : Doc) (text : List ℕ) (p' : Parser) (d' : Doc) (ran : Ran) : Type 0 where
  pub boundary : IsCharBoundary text ran.used
  -- a stop is behind a character
  pub onward : ran.stop ≢ stop.InputEnd → 0 < ran.used
  pub parsed : HasParsed es p d (chars text) p' d' (chars (drop ran.used text)) ran.stop
  pub served : IsServed p' d'
  pub bound : IsStopBound (is_bound d'.bound) ran.stop

-- The same of written text, of which that part is left.
pub record RestParsed (es : Entities) (p : Parser) (d : Doc) (rest : List ℕ) (p' : Parser) (d' : Doc) (left : List ℕ) (s : Stop) : Type 0 where
  pub parsed : HasParsed es p d rest p' d' left s
  pub served : IsServed p' d'
  pub bound : IsStopBound (is_bound d'.bound) s
  pub shorter : s ≢ stop.InputEnd → length left < length rest

-- What a parser that stood at p has made of the page's ending, on the document d: the end of the input, or a refusal, which has no operations
-- and leaves the parser at p.
pub record HasTakenEnding (es : Entities) (e : Ending) (p : Parser) (d : Doc) (p' : Parser) (d' : Doc) (end : End) : Type 0 where
  pub parser : p' ≡ (end_batch es p e).after
  pub doc : d' ≡ acts d (end_batch es p e).ops
  pub answer : over_with (result_of end) ≡ (end_batch es p e).halt

-- The page's ending was taken, and its operations were done.
pub record EndParsed (es : Entities) (e : Ending) (p : Parser) (d : Doc) (p' : Parser) (d' : Doc) (end : End) : Type 0 where
  pub taken : HasTakenEnding es e p d p' d' end
  pub served : IsServed p' d'
