-- The parser of a fragment (13.4 #parsing-html-fragments): its context stays, no script's end tag
-- stops it, and what it asks for names ids that are bound.
use Rattle.std.specs.Prelude.{◌≡◌, ℕ, Bool, true, false, is_some, List, [], Some}
use Rattle.html_types.specs.declared.instruction.Next.{Next}
use Rattle.html_types.specs.declared.instruction.Next.TheVariants as next
use Rattle.html_types.specs.declared.instruction.Stop.{Stop}
use Rattle.html_types.specs.declared.instruction.Stop.TheVariants as stop
use Rattle.html_types.specs.declared.token.Token.{Token}
use Rattle.html_types.specs.declared.operation.Op.{Op}
use Rattle.html_types.specs.declared.operation.NodeId.{NodeId}
use Rattle.html_types.specs.declared.open.Context.{Context}
use Rattle.html_types.specs.declared.open.Open.{Open}
use Rattle.standard.specs.Entities.{Entities}
use Rattle.standard.specs.Rules.{construct}
use Rattle.standard.specs.Parser.{Parser, Took, took, take_character, finish, Parsed, parse}
use Rattle.standard.specs.Through.{Through, through, deep, read_through, with_end}
use Rattle.standard.specs.Tree.{Nodes}
use Rattle.standard.specs.Act.{is_bound, AreOpsBound, Doc}
use Rattle.standard.specs.Fragment.{fragment_parser, fragment, with_fragment}
use Rattle.rule_laws.specs.Naming.{Serves}
use Rattle.rule_laws.specs.NamingLaws.{StaysServed, parser_of}

-- ---- the context

abbrev pub TokensKeepContext : Type 0
TokensKeepContext = (t : Token) (b : Open) (o : List Op) → (construct t b o).open_state.context ≡ b.context

abbrev pub CharactersKeepContext : Type 0
CharactersKeepContext = (es : Entities) (p : Parser) (c : ℕ) → (parser_of (take_character es p c)).open_state.context ≡ p.open_state.context

abbrev pub EndsKeepContext : Type 0
EndsKeepContext = (es : Entities) (p : Parser) → (finish es p).parser.open_state.context ≡ p.open_state.context

abbrev pub TextsKeepContext : Type 0
TextsKeepContext = (es : Entities) (p : Parser) (text : List ℕ) → (parse es p text).parser.open_state.context ≡ p.open_state.context

-- ---- the end tags of scripts

abbrev pub asks_for_script : Next → Bool
asks_for_script (next.Script i) = true
asks_for_script _ = false

abbrev pub is_at_script : Stop → Bool
is_at_script (stop.Script i) = true
is_at_script _ = false

abbrev pub stop_of : Took → Stop
stop_of (took ops p s) = s

abbrev pub IsFragment : Open → Type 0
IsFragment b = is_some b.context ≡ true

abbrev pub TokensNeverStop : Type 0
TokensNeverStop = (t : Token) (b : Open) (o : List Op) → IsFragment b → asks_for_script (construct t b o).next ≡ false

abbrev pub CharactersNeverStop : Type 0
CharactersNeverStop = (es : Entities) (p : Parser) (c : ℕ) → IsFragment p.open_state → is_at_script (stop_of (take_character es p c)) ≡ false

abbrev pub TextsNeverStop : Type 0
TextsNeverStop = (es : Entities) (p : Parser) (text : List ℕ) → IsFragment p.open_state → is_at_script (parse es p text).stop ≡ false

-- where a parse up to the first stop comes to, which is a stop for depth or none
abbrev pub come_to : List Op → Parser → Stop → Through
come_to ops p stop.Deep = deep
come_to ops p _ = through ops p

abbrev pub come_by : Parsed → Through
come_by r = come_to r.ops r.parser r.stop

-- so the text is parsed as any other is
abbrev pub FragmentsParse : Type 0
FragmentsParse = (es : Entities) (p : Parser) (text : List ℕ) → IsFragment p.open_state → read_through es p text ≡ come_by (parse es p text)

-- and a fragment is what the parse of the text and of the end of the input ask for
abbrev pub FragmentByParse : Type 0
FragmentByParse = (es : Entities) (c : Context) (text : List ℕ) → fragment es c text ≡ with_end es (come_by (parse es (fragment_parser c 0) text))

-- ---- ids

-- the operations of a text that is read through can be executed, and then all ids that the open state holds are bound
abbrev pub ThroughServed : ((NodeId → Bool) → NodeId → Type 0) → Doc → Through → Type 0
ThroughServed Coming d (through ops p) = StaysServed Coming d ops p.open_state
ThroughServed Coming d deep = Unit {0}

abbrev pub DocsServeThrough : ((NodeId → Bool) → NodeId → Type 0) → Type 0
DocsServeThrough Coming = (d : Doc) (es : Entities) (p : Parser) (text : List ℕ) → Serves Coming (is_bound d.bound) p.open_state → ThroughServed Coming d (read_through es p text)

-- a fragment's operations can be executed where its roots were made, under ids of their own
abbrev pub FragmentIsBound : Type 0
FragmentIsBound =
    (t : Nodes) (es : Entities) (c : Context) (text : List ℕ) (ops : List Op) → fragment es c text ≡ Some ops → AreOpsBound (is_bound (with_fragment t c.form []).bound) ops
