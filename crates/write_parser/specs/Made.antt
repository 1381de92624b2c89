-- The changes that a parse makes, step by step: which they are, and that each is made once.
use Rattle.std.specs.Prelude.{◌≡◌, ◌≢◌, ◌⊎◌, ℕ, Bool, List, [], ◌∷◌, ◌++◌, fold, Option, Some, None, if◌then◌else◌}
use Rattle.html_types.specs.declared.ending.Ending.{Ending}
use Rattle.html_types.specs.declared.ending.Why.{Why}
use Rattle.html_types.specs.declared.ending.Why.TheVariants as why
use Rattle.html_types.specs.declared.instruction.Stop.{Stop}
use Rattle.html_types.specs.declared.instruction.Stop.TheVariants as stop
use Rattle.html_types.specs.declared.operation.NodeId.{NodeId}
use Rattle.html_types.specs.declared.operation.Op.{Op}
use Rattle.html_types.specs.declared.open.Context.{Context}
use Rattle.serial.specs.declared.script.Statement.{Statement}
use Rattle.serial.specs.declared.script.Statement.TheVariants as statement
use Rattle.standard.specs.Entities.{Entities}
use Rattle.standard.specs.Tree.{Nodes, find_id, lies_in}
use Rattle.standard.specs.Act.{Doc, node_of}
use Rattle.standard.specs.Fragment.{fragment, context_at}
use Rattle.standard.specs.Parser.{Parser, parse}
use Rattle.standard.specs.Prepare.{Prepared, still, inline, external, prepare}
use Rattle.serial.specs.Serial.{with_line_feed}
use Rattle.serial.specs.Statements.{statements}
use Rattle.core_definitions.specs.Batches.{end_batch}
use Rattle.standard_laws.specs.Frames.{Frame, Waits, LacksElement}
use Rattle.standard_laws.specs.Laws.{HasParsed}
use Rattle.doc_changes.specs.declared.change.Change.{Change}
use Rattle.doc_changes.specs.declared.change.Change.TheVariants.{Did, Removed, Moved, Filled}
use Rattle.doc_changes.specs.Changes.{changed}
use Rattle.doc_changes.specs.Logs.{LogView, with_more}
use Rattle.write_parser.specs.Writing.{View}

-- ---- of a text, and of the page's ending: one batch

abbrev pub of_text : Entities → Parser → List ℕ → List Change
of_text es p text = Did (parse es p text).ops ∷ []

abbrev pub of_ending : Entities → Ending → Parser → List Change
of_ending es e p = Did (end_batch es p e).ops ∷ []

-- ---- of a statement: one, or none

-- none where it isn't there
abbrev pub of_removal : Option ℕ → List Change
of_removal None = []
of_removal (Some node) = Removed node ∷ []

-- nor where that is impossible
abbrev pub of_move : Nodes → Option ℕ → Option ℕ → List Change
of_move t (Some first) (Some second) = if lies_in t first second then [] else Moved first second ∷ []
of_move t (Some first) None = []
of_move t None second = []

-- nor where the fragment is too deep
abbrev pub of_fragment : ℕ → Bool → Option (List Op) → List Change
of_fragment target form None = []
of_fragment target form (Some ops) = Filled target (record { form = form; ops = ops }) ∷ []

abbrev pub of_setting : Entities → Bool → Nodes → Option ℕ → List ℕ → List Change
of_setting es quirks t None text = []
of_setting es quirks t (Some n) text =
    let c : Context = context_at t n quirks in of_fragment n c.form (fragment es c text)

abbrev pub of_statement : Entities → Bool → Nodes → Statement → List Change
of_statement es quirks t (statement.Remove v) = of_removal (find_id t v)
of_statement es quirks t (statement.Append v c) = of_move t (find_id t v) (find_id t c)
of_statement es quirks t (statement.SetInner v text) = of_setting es quirks t (find_id t v) text
of_statement es quirks t _ = []

-- what it writes
abbrev pub written_by : Statement → List ℕ
written_by (statement.Write text) = text
written_by (statement.WriteLine text) = with_line_feed text
written_by _ = []

-- ---- where a parse stands

pub record At : Type 0 where
  pub parser : Parser
  pub doc : Doc
  -- what was written at level 0 and isn't used yet
  pub rest : List ℕ
  -- the scripts that were begun, the innermost first
  pub frames : List Frame
  -- the `src` of the script that is pending
  pub pending : Option (List ℕ)
  -- why the page is refused
  pub halted : Option Why

-- at level 0
abbrev pub at_view : View → At
at_view v = record { parser = v.parser; doc = v.doc; rest = v.rest; frames = []; pending = v.pending; halted = v.halted }

abbrev pub text_by : List Frame → List ℕ → List ℕ
text_by [] rest = rest
text_by (f ∷ fs) rest = f.rest

-- the written text that the parser takes next: the innermost script's, or that of level 0
abbrev pub text_at : At → List ℕ
text_at a = text_by a.frames a.rest

abbrev pub with_left_in : List Frame → List ℕ → At → At
with_left_in [] left a = record a { rest = left }
with_left_in (f ∷ fs) left a = record a { frames = record f { rest = left } ∷ fs }

-- so much of it is left
abbrev pub with_left : List ℕ → At → At
with_left left a = with_left_in a.frames left a

-- ---- a script begins

-- a text outside the language runs nothing
abbrev pub BeginsBy : Option (List Statement) → At → At → Type 0
BeginsBy None a b = b ≡ a
BeginsBy (Some list) a b =
    (number : ℕ) × (b ≡ record a { frames = record { number = number; list = list; rest = [] } ∷ a.frames })

abbrev pub IsPreparedBy : Prepared → At → At → Type 0
IsPreparedBy still a b = b ≡ a
IsPreparedBy (external name) a b = b ≡ record a { pending = Some name }
IsPreparedBy (inline text) a b = BeginsBy (statements text) a b

-- the script of that id, prepared on the tree as it is
abbrev pub IsPrepared : NodeId → At → At → Type 0
IsPrepared id a b = IsPreparedBy (prepare a.doc.tree (node_of a.doc.bound id)) a b

-- ---- the steps

abbrev pub StopsBy : Stop → At → At → Type 0
StopsBy stop.InputEnd a b = b ≡ a
StopsBy (stop.Script id) a b = IsPrepared id a b
StopsBy stop.Deep a b = b ≡ record a { frames = []; halted = Some why.Depth }

-- Written text was parsed up to a stop, which is one batch. No script is pending.
pub record ParsesText (es : Entities) (a : At) (more : List Change) (b : At) : Type 0 where
  pub parser : Parser
  pub doc : Doc
  pub left : List ℕ
  pub stops : Stop
  pub going : a.halted ≡ None
  pub pending : a.pending ≡ None
  pub some : text_at a ≢ []
  pub parsed : HasParsed es a.parser a.doc (text_at a) parser doc left stops
  pub changes : more ≡ of_text es a.parser (text_at a)
  pub comes : StopsBy stops (record (with_left left a) { parser = parser; doc = doc }) b

-- The next statement of the innermost script was done; behind one whose element isn't there, or whose move is impossible, none is left. What was
-- written before is used up, or a script is pending. What it writes stands behind what isn't used, unless that refuses the page.
pub record DoesStatement (es : Entities) (a : At) (more : List Change) (b : At) : Type 0 where
  pub number : ℕ
  pub first : Statement
  pub list : List Statement
  pub rest : List ℕ
  pub around : List Frame
  pub behind : List Statement
  pub wrote : List ℕ
  pub going : a.halted ≡ None
  pub frames : a.frames ≡ record { number = number; list = first ∷ list; rest = rest } ∷ around
  pub waits : Waits a.pending rest
  pub changes : more ≡ of_statement es a.parser.open_state.quirks a.doc.tree first
  pub left : ((LacksElement a.doc.tree first → ⊥) × (behind ≡ list)) ⊎ (LacksElement a.doc.tree first × (behind ≡ []))
  pub writes : b.halted ≡ None → wrote ≡ rest ++ written_by first
  pub doc : b.doc ≡ fold changed a.doc more
  pub others : b ≡ record a {
    doc = b.doc;
    frames = record { number = number; list = behind; rest = wrote } ∷ around;
    halted = b.halted;
  }

-- what is left of its text stands before that of the script around it, or at level 0
abbrev pub ended_in : List ℕ → List Frame → At → At
ended_in rest [] a = record a { frames = []; rest = rest ++ a.rest }
ended_in rest (f ∷ fs) a = record a { frames = record f { rest = rest ++ f.rest } ∷ fs }

-- The innermost script, of which no statement is left, ended. What it wrote is used up, or a script is pending.
pub record EndsScript (a b : At) : Type 0 where
  pub number : ℕ
  pub rest : List ℕ
  pub around : List Frame
  pub frames : a.frames ≡ record { number = number; list = []; rest = rest } ∷ around
  pub waits : Waits a.pending rest
  pub is : b ≡ ended_in rest around a

-- From the one to the other these changes were made, in this order, and no others.
pub data Made (es : Entities) : At → List Change → At → Type 0 where
  nothing : (a : At) → Made es a [] a
  follows : (a b c : At) (more more' : List Change) → Made es a more b → Made es b more' c →
      Made es a (more ++ more') c
  parses : (a b : At) (more : List Change) → ParsesText es a more b → Made es a more b
  does : (a b : At) (more : List Change) → DoesStatement es a more b → Made es a more b
  ends : (a b : At) → EndsScript a b → Made es a [] b
  -- once the page is refused no script goes on
  gives_up : (a b : At) (r : Why) → a.halted ≡ Some r → b ≡ record a { frames = [] } → Made es a [] b

-- the same from the end tag of a script
pub record MadeAtTag (es : Entities) (id : NodeId) (a : At) (more : List Change) (b : At) : Type 0 where
  pub begun : At
  pub prepared : IsPrepared id a begun
  pub made : Made es begun more b

-- and from the beginning of a script's text; no script is pending then
pub record MadeByText (es : Entities) (text : Option (List Statement)) (a : At) (more : List Change) (b : At) : Type 0 where
  pub begun : At
  pub begins : BeginsBy text (record a { pending = None }) begun
  pub made : Made es begun more b

-- nothing runs once the page is refused
abbrev pub MadeUnless : Option Why → Entities → Option (List Statement) → At → List Change → At → Type 0
MadeUnless None es text a more b = MadeByText es text a more b
MadeUnless (Some r) es text a more b = (more ≡ []) × (b ≡ a)

-- ---- the log

-- The log gained changes that are so. Where it isn't kept they were made all the same.
pub record LogsBy (Are : List Change → Type 0) (log log' : LogView) : Type 0 where
  pub more : List Change
  pub adds : log' ≡ with_more more log
  pub made : Are more
