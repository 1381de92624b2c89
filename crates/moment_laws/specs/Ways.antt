-- How moments of the serial parse come one behind another.
use Rattle.std.specs.Prelude.{◌≡◌, ℕ, true, false, List, ◌++◌, take, Some}
use Rattle.html_types.specs.declared.ending.Ending.{Ending}
use Rattle.html_types.specs.declared.ending.Ending.TheVariants as ending
use Rattle.html_types.specs.declared.instruction.Stop.{Stop}
use Rattle.standard.specs.Act.{Doc}
use Rattle.standard.specs.Entities.{Entities}
use Rattle.standard.specs.Parser.{Parser, parse}
use Rattle.serial.specs.Serial.{World, Serial, Moment, reading, moment_after, Leads}
use Rattle.standard_laws.specs.Laws.{HasParsed, moment_at}
use Rattle.core_definitions.specs.Settling.{is_settled, Through, Settles}

-- ---- any two moments

abbrev pub LeadsSame : Type 0
LeadsSame = (e : Ending) (w : World) (m : Moment) → Leads e w m m

abbrev pub LeadsNext : Type 0
LeadsNext = (e : Ending) (w : World) (a : Moment) (n : ℕ) (b c : Moment) → Leads e w a b → moment_after n e w b ≡ Some c → Leads e w a c

abbrev pub LeadsThen : Type 0
LeadsThen = (e : Ending) (w : World) (a b c : Moment) → Leads e w a b → Leads e w b c → Leads e w a c

-- ---- moments of which none before the last is settled

-- what is parsed of a front of the input
abbrev pub BatchesGoThrough : Type 0
BatchesGoThrough = (e : Ending) (w : World) (s : Serial) (x rest : List ℕ) (p : Parser) (d : Doc) (left : List ℕ) (stopped : Stop) →
    s.input ≡ x ++ rest → HasParsed w.entities s.parser s.side.doc x p d left stopped → Through e w (reading s) (moment_at s p d (left ++ rest) stopped)

abbrev pub GoesOn : Type 0
GoesOn = (e : Ending) (w : World) (a b c : Moment) → Through e w a b → Through e w b c → Through e w a c

abbrev pub ThroughLeads : Type 0
ThroughLeads = (e : Ending) (w : World) (m0 a b : Moment) → Leads e w m0 a → Through e w a b → Leads e w m0 b

-- Where the first is at a script's end tag, or at text that isn't used yet, and the last is settled, that is the settled moment.
abbrev pub ThroughSettles : Type 0
ThroughSettles = (w : World) (a b : Moment) → is_settled a ≡ false → is_settled b ≡ true → Through ending.End w a b → Settles w a b

-- the page's ending isn't looked at
abbrev pub NoEndingMatters : Type 0
NoEndingMatters = (e e' : Ending) (w : World) (a b : Moment) → Through e w a b → Through e' w a b

-- ---- texts

-- the parse of a text up to its first stop is that of the front that it uses
abbrev pub ParsesItsFront : Type 0
ParsesItsFront = (es : Entities) (p : Parser) (x : List ℕ) → parse es p (take (parse es p x).used x) ≡ parse es p x
