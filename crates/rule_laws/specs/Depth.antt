-- At most 512 elements are ever open: a token that would open one more asks the parser to stop.
use Rattle.std.specs.Prelude.{◌≤◌, ℕ, List, length}
use Rattle.html_types.specs.declared.instruction.Mode.{Mode}
use Rattle.html_types.specs.declared.token.Token.{Token}
use Rattle.html_types.specs.declared.operation.Op.{Op}
use Rattle.html_types.specs.declared.open.Open.{Open}
use Rattle.standard.specs.Rules.{process, construct}
use Rattle.standard.specs.Parser.{opening}

abbrev pub IsShallow : Open → Type 0
IsShallow b = length b.stack ≤ 512

abbrev pub TokensStayShallow : Type 0
TokensStayShallow = (t : Token) (b : Open) (o : List Op) → IsShallow b → IsShallow (construct t b o).open_state

abbrev pub RoundsStayShallow : Type 0
RoundsStayShallow = (n : ℕ) (m : Mode) (t : Token) (b : Open) (o : List Op) → IsShallow b → IsShallow (process n m t b o).open_state

abbrev pub OpeningIsShallow : Type 0
OpeningIsShallow = (realm : ℕ) → IsShallow (opening realm)
