-- What holds of tree construction whatever the rows of its tables say.
use Rattle.std.specs.Prelude.{◌≡◌, ℕ, Bool, false, List, []}
use Rattle.html_types.specs.declared.instruction.Instr.{Instr}
use Rattle.html_types.specs.declared.instruction.Mode.{Mode}
use Rattle.html_types.specs.declared.token.Token.{Token}
use Rattle.html_types.specs.declared.operation.Op.{Op}
use Rattle.html_types.specs.declared.operation.NodeId.{NodeId}
use Rattle.html_types.specs.declared.open.Open.{Open}
use Rattle.standard.specs.Instructions.{Config, on, run}
use Rattle.standard.specs.Rules.{Answer, by_mode, process, construct}
use Rattle.standard.specs.Entities.{Entities}
use Rattle.standard.specs.Parser.{opening, Parser, Took, took, take_character, Finished, finish, Parsed, parse}
use Rattle.standard.specs.Act.{AreOpsBound, Doc, new_doc, is_bound, acts}
use Rattle.rule_laws.specs.Naming.{config_behind, answer_behind, Serves, known_after_all, IsNextBound, IsStopBound, Renames, IsLater, rename_ops, rename_open, rename_row, rename_config, rename_answer, rename_parser, rename_took, rename_finished, rename_parsed}

-- ---- operations are only appended: what is asked for depends on nothing that was asked for before

abbrev pub RowsAppend : Type 0
RowsAppend = (t : Token) (b : Open) (o : List Op) (row : List Instr) → run t (on b o) row ≡ config_behind o (run t (on b []) row)

abbrev pub RulesAppend : Type 0
RulesAppend = (m : Mode) (t : Token) (b : Open) (o : List Op) → by_mode m t b o ≡ answer_behind o (by_mode m t b [])

abbrev pub RoundsAppend : Type 0
RoundsAppend = (n : ℕ) (m : Mode) (t : Token) (b : Open) (o : List Op) → process n m t b o ≡ answer_behind o (process n m t b [])

abbrev pub TokensAppend : Type 0
TokensAppend = (t : Token) (b : Open) (o : List Op) → construct t b o ≡ answer_behind o (construct t b [])

-- ---- foster parenting is off behind a token

abbrev pub FosteringEnds : Type 0
FosteringEnds = (t : Token) (b : Open) (o : List Op) → (construct t b o).open_state.foster ≡ false

-- ---- operations name ids that are bound, and elements are made under ids that aren't, where all ids that the open state
-- holds are bound; and so it is behind the operations. `Coming` says what is asked of the ids that the open state is to give

abbrev pub StaysBound : ((NodeId → Bool) → NodeId → Type 0) → (NodeId → Bool) → List Op → Open → Type 0
StaysBound Coming known ops b = AreOpsBound known ops × Serves Coming (known_after_all known ops) b

abbrev pub TokensStayBound : ((NodeId → Bool) → NodeId → Type 0) → Type 0
TokensStayBound Coming =
    (known : NodeId → Bool) (t : Token) (b : Open) → Serves Coming known b →
    let a : Answer = construct t b [] in
    StaysBound Coming known a.ops a.open_state × IsNextBound (known_after_all known a.ops) a.next

abbrev pub TookBound : ((NodeId → Bool) → NodeId → Type 0) → (NodeId → Bool) → Took → Type 0
TookBound Coming known (took ops p why) = StaysBound Coming known ops p.open_state × IsStopBound (known_after_all known ops) why

abbrev pub CharactersStayBound : ((NodeId → Bool) → NodeId → Type 0) → Type 0
CharactersStayBound Coming =
    (known : NodeId → Bool) (es : Entities) (p : Parser) (c : ℕ) → Serves Coming known p.open_state → TookBound Coming known (take_character es p c)

abbrev pub EndsStayBound : ((NodeId → Bool) → NodeId → Type 0) → Type 0
EndsStayBound Coming =
    (known : NodeId → Bool) (es : Entities) (p : Parser) → Serves Coming known p.open_state →
    let f : Finished = finish es p in
    StaysBound Coming known f.ops f.parser.open_state

abbrev pub TextsStayBound : ((NodeId → Bool) → NodeId → Type 0) → Type 0
TextsStayBound Coming =
    (known : NodeId → Bool) (es : Entities) (p : Parser) (text : List ℕ) → Serves Coming known p.open_state →
    let r : Parsed = parse es p text in
    StaysBound Coming known r.ops r.parser.open_state × IsStopBound (known_after_all known r.ops) r.stop

-- ---- the same of a document that the operations are executed on

-- which ids are bound in it then
abbrev pub ActsBind : Type 0
ActsBind = (d : Doc) (ops : List Op) (id : NodeId) → is_bound (acts d ops).bound id ≡ known_after_all (is_bound d.bound) ops id

-- the operations can be executed, and then all ids that the open state holds are bound
abbrev pub StaysServed : ((NodeId → Bool) → NodeId → Type 0) → Doc → List Op → Open → Type 0
StaysServed Coming d ops b = AreOpsBound (is_bound d.bound) ops × Serves Coming (is_bound (acts d ops).bound) b

abbrev pub NewDocServes : ((NodeId → Bool) → NodeId → Type 0) → Type 0
NewDocServes Coming = (realm : ℕ) → Serves Coming (is_bound new_doc.bound) (opening realm)

abbrev pub DocsServeTexts : ((NodeId → Bool) → NodeId → Type 0) → Type 0
DocsServeTexts Coming =
    (d : Doc) (es : Entities) (p : Parser) (text : List ℕ) → Serves Coming (is_bound d.bound) p.open_state →
    let r : Parsed = parse es p text in
    StaysServed Coming d r.ops r.parser.open_state × IsStopBound (is_bound (acts d r.ops).bound) r.stop

abbrev pub DocsServeEnds : ((NodeId → Bool) → NodeId → Type 0) → Type 0
DocsServeEnds Coming =
    (d : Doc) (es : Entities) (p : Parser) → Serves Coming (is_bound d.bound) p.open_state →
    let f : Finished = finish es p in
    StaysServed Coming d f.ops f.parser.open_state

-- ---- which ids the elements have makes no difference

abbrev pub RowsRename : Type 0
RowsRename = (r : NodeId → NodeId) (t : Token) (c : Config) (row : List Instr) → Renames r c.open_state.next → run t (rename_config r c) (rename_row r row) ≡ rename_config r (run t c row)

abbrev pub TokensRename : Type 0
TokensRename =
    (r : NodeId → NodeId) (t : Token) (b : Open) (o : List Op) → Renames r b.next →
    construct t (rename_open r b) (rename_ops r o) ≡ rename_answer r (construct t b o)

abbrev pub CharactersRename : Type 0
CharactersRename =
    (r : NodeId → NodeId) (es : Entities) (p : Parser) (c : ℕ) → Renames r p.open_state.next →
    take_character es (rename_parser r p) c ≡ rename_took r (take_character es p c)

abbrev pub EndsRename : Type 0
EndsRename =
    (r : NodeId → NodeId) (es : Entities) (p : Parser) → Renames r p.open_state.next →
    finish es (rename_parser r p) ≡ rename_finished r (finish es p)

abbrev pub TextsRename : Type 0
TextsRename =
    (r : NodeId → NodeId) (es : Entities) (p : Parser) (text : List ℕ) → Renames r p.open_state.next →
    parse es (rename_parser r p) text ≡ rename_parsed r (parse es p text)

-- a renaming for the ids from one on is one for those from a later one on
abbrev pub LaterRenames : Type 0
LaterRenames = (r : NodeId → NodeId) (next id : NodeId) → Renames r next → IsLater next id → Renames r id

-- ---- the next id only grows

abbrev pub TokensGrow : Type 0
TokensGrow = (t : Token) (b : Open) (o : List Op) → IsLater b.next (construct t b o).open_state.next

abbrev pub parser_of : Took → Parser
parser_of (took ops p why) = p

abbrev pub CharactersGrow : Type 0
CharactersGrow = (es : Entities) (p : Parser) (c : ℕ) → IsLater p.open_state.next (parser_of (take_character es p c)).open_state.next

abbrev pub EndsGrow : Type 0
EndsGrow = (es : Entities) (p : Parser) → IsLater p.open_state.next (finish es p).parser.open_state.next

abbrev pub TextsGrow : Type 0
TextsGrow = (es : Entities) (p : Parser) (text : List ℕ) → IsLater p.open_state.next (parse es p text).parser.open_state.next
