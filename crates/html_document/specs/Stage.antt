-- What a parser holds that is fed a page.
use Rattle.std.specs.Prelude.{Bool}
use Rattle.standard.specs.Entities.{Entities}
use Rattle.standard.specs.Act.{Doc, is_bound}
use Rattle.standard.specs.Parser.{Parser}
use Rattle.rule_laws.specs.Naming.{Serves, AreFresh}
use Rattle.utf8_pieces.specs.declared.decoder.Decoder.{Decoder}

-- The ids that the parser holds are bound in the document, and those that it is to give aren't.
abbrev pub IsServed : Parser → Doc → Type 0
IsServed p d = Serves AreFresh (is_bound d.bound) p.open_state

pub record Stage : Type 0 where
  pub entities : Entities
  pub decoder : Decoder
  pub parser : Parser
  pub doc : Doc
  -- no push was met that would open element 513
  pub goes_on : Bool
  -- memory was wanting
  pub spent : Bool
