-- Nested scripts as a list of frames, in the form in which a program holds them: what they still come to, and one law for
-- each step. (8.4.3 #document.write(), document.write(); 13.2.6.4.8 #parsing-main-incdata, the end
-- tag "script")
--
-- A frame is a script that was begun: its number, its statements that are left, and the text that it wrote and that isn't
-- parsed yet, which stands before its insertion point. The innermost frame is the first. The input of the parse is the texts
-- from the innermost frame outwards, and then what stands behind them: the rest of what was written at level 0, and the page.
--
-- How a program uses this. It holds a `Nest` (all but the page's part of `behind`, which stays the same). Its loop has one
-- frame or more, and shows of every state x that it comes to
--
--     (g : Course) → NestComesTo w x g → TagComesTo w i x0 g         (or TextComesTo w text x0 g)
--
-- where x0 is the state, without a frame, in which it was called. Each turn is one law below, which says: what comes of the
-- state behind the turn comes of the state before it. The law of a refusal and `FramesEnd` give the flow itself:
--
--     a script's end tag     StillTags, ExternalTags, InlineTags; then of its text OutsideTexts or TextsBegin
--     the innermost frame f  where f.rest isn't empty and no script is pending, the parser takes f.rest: RestsEnd (all is
--                            used), RestsStop (at a script's end tag: then as above), RestsRefuse (too deep)
--                            else, by f.list: FrameEnds (no statement is left), WritesFit or WritesRefuse, LinesFit or
--                            LinesRefuse, Removes, Appends, ReadsById, ReadsRoot, Throws
--     no frame               FramesEnd
--
-- A program that keeps the innermost frame last has `reverse` of its list here.
--
-- At level 0 `ScriptsEnter` and `FilesEnter` make of it what `ScriptLeads`, `ScriptRefuses`, `AwaitsGot` and `AwaitsRefuses`
-- (Laws.antt) ask for; the moment is then `behind_script (state_of x)`.
use Rattle.std.specs.Prelude.{◌≡◌, ℕ, suc, ◌+◌, ◌≤◌, ◌<◌, ⊤, List, [], ◌∷◌, ◌++◌, length, Option, Some, None}
use Rattle.html_types.specs.declared.operation.NodeId.{NodeId}
use Rattle.html_types.specs.declared.ending.Why.TheVariants as why
use Rattle.serial.specs.declared.script.Statement.{Statement}
use Rattle.serial.specs.declared.script.Statement.TheVariants as statement
use Rattle.serial.specs.declared.script.Line.{Line}
use Rattle.serial.specs.declared.script.Line.TheVariants as line
use Rattle.html_types.specs.declared.instruction.Stop.TheVariants as stop
use Rattle.standard.specs.Fragment.{too_deep, setting, inner_set}
use Rattle.standard.specs.Tree.{Nodes, detached, appended, find_id, first_element}
use Rattle.standard.specs.Act.{Doc, node_of}
use Rattle.standard.specs.Outer.{outer_text}
use Rattle.standard.specs.Prepare.{Prepared, still, inline, external, prepare}
use Rattle.serial.specs.Scripts.{file_statements}
use Rattle.serial.specs.Statements.{statements}
use Rattle.standard.specs.Parser.{Parser}
use Rattle.serial.specs.Serial.{World, Serial, Course, goes, refuses, ◌then◌, at_level, at_point, back_at, inside, write_limit, with_line_feed, execute, run_statements, go_on, end_of_script}
use Rattle.standard_laws.specs.Laws.{HasParsed, EndsIn, ScriptComesTo, FileComesTo}

-- ---- the state

pub record Frame : Type 0 where
  -- the number of the script
  pub number : ℕ
  -- the statements that are left
  pub list : List Statement
  -- what it wrote, as far as it isn't parsed
  pub rest : List ℕ

pub record Nest : Type 0 where
  pub parser : Parser
  pub doc : Doc
  -- the `src` of the script that is pending
  pub pending : Option (List ℕ)
  pub written : ℕ
  pub executed : ℕ
  pub lines : List Line
  -- the innermost first
  pub frames : List Frame
  -- the input behind the frames' texts
  pub behind : List ℕ

-- the texts from the innermost frame outwards
abbrev pub rests : List Frame → List ℕ
rests [] = []
rests (f ∷ fs) = f.rest ++ rests fs

-- how many characters stand after the insertion point of the innermost frame; at level 0 it is at the end of the input
abbrev pub point_of : List Frame → List ℕ → ℕ
point_of [] behind = 0
point_of (f ∷ fs) behind = length (rests fs ++ behind)

-- the state of the serial parse
abbrev pub state_of : Nest → Serial
state_of x = record {
  input = rests x.frames ++ x.behind;
  point = point_of x.frames x.behind;
  parser = x.parser;
  side = record { doc = x.doc; level = length x.frames; pending = x.pending; written = x.written; executed = x.executed; lines = x.lines };
}

-- ---- what it still comes to

-- back in these frames
abbrev pub back_in : List Frame → List ℕ → Serial → Serial
back_in fs behind s = at_level (length fs) (at_point (point_of fs behind) s)

-- the parser goes on up to the insertion point, then the innermost script's statements run, then that script ends
abbrev pub resume_in : ℕ → World → List Frame → List ℕ → Serial → Course
resume_in n w [] behind s = goes s
resume_in n w (f ∷ fs) behind s =
    go_on n w s.side.pending s then λ t. run_statements n w f.number f.list t then λ u. resume_in n w fs behind (back_in fs behind u)

abbrev pub resume : ℕ → World → Nest → Course
resume n w x = resume_in n w x.frames x.behind (state_of x)

-- what a state comes to, with enough fuel
abbrev pub NestComesTo : World → Nest → Course → Type 0
NestComesTo w x = EndsIn (λ n. resume n w x)

-- the same from the end tag of a script
abbrev pub TagComesTo : World → NodeId → Nest → Course → Type 0
TagComesTo w i x = EndsIn (λ n. end_of_script n w i (state_of x) then λ t. resume_in n w x.frames x.behind t)

-- and from the beginning of a script's text
abbrev pub TextComesTo : World → Option (List Statement) → Nest → Course → Type 0
TextComesTo w text x = EndsIn (λ n. execute n w text (inside (state_of x)) then λ t. resume_in n w x.frames x.behind (back_at (state_of x) t))

-- ---- at level 0

-- no frame is left
abbrev pub FramesEnd : Type 0
FramesEnd = (w : World) (x : Nest) → x.frames ≡ [] → NestComesTo w x (goes (state_of x))

abbrev pub ScriptsEnter : Type 0
ScriptsEnter = (w : World) (i : NodeId) (x : Nest) (g : Course) → x.frames ≡ [] → TagComesTo w i x g → ScriptComesTo w i (state_of x) g

abbrev pub FilesEnter : Type 0
FilesEnter = (w : World) (bytes : List ℕ) (x : Nest) (g : Course) → x.frames ≡ [] → TextComesTo w (file_statements bytes) x g → FileComesTo w bytes (state_of x) g

-- ---- the end tag of a script

-- the script of that id, prepared on the tree as it is
abbrev pub prepared_in : NodeId → Nest → Prepared
prepared_in i x = prepare x.doc.tree (node_of x.doc.bound i)

-- it doesn't run
abbrev pub StillTags : Type 0
StillTags = (w : World) (i : NodeId) (x : Nest) (g : Course) → prepared_in i x ≡ still → NestComesTo w x g → TagComesTo w i x g

-- it is external
abbrev pub ExternalTags : Type 0
ExternalTags = (w : World) (i : NodeId) (x : Nest) (name : List ℕ) (g : Course) → prepared_in i x ≡ external name →
    NestComesTo w (record x { pending = Some name }) g → TagComesTo w i x g

-- its text runs
abbrev pub InlineTags : Type 0
InlineTags = (w : World) (i : NodeId) (x : Nest) (t : List ℕ) (g : Course) → prepared_in i x ≡ inline t →
    TextComesTo w (statements t) x g → TagComesTo w i x g

-- ---- a text

-- a script more was executed, whose text isn't in the language
abbrev pub outside_language : Nest → Nest
outside_language x = record x { executed = suc x.executed; lines = x.lines ++ line.Syntax (suc x.executed) ∷ [] }

-- a script more was begun
abbrev pub begun : List Statement → Nest → Nest
begun list x = record x { executed = suc x.executed; frames = record { number = suc x.executed; list = list; rest = [] } ∷ x.frames }

abbrev pub OutsideTexts : Type 0
OutsideTexts = (w : World) (text : Option (List Statement)) (x : Nest) (g : Course) → text ≡ None →
    NestComesTo w (outside_language x) g → TextComesTo w text x g

abbrev pub TextsBegin : Type 0
TextsBegin = (w : World) (text : Option (List Statement)) (list : List Statement) (x : Nest) (g : Course) → text ≡ Some list →
    NestComesTo w (begun list x) g → TextComesTo w text x g

-- ---- the parser takes what the innermost frame wrote

-- it took a part of it
abbrev pub parsed_to : Parser → Doc → List ℕ → Frame → List Frame → Nest → Nest
parsed_to p d left f fs x = record x { parser = p; doc = d; frames = record f { rest = left } ∷ fs }

-- all of it
abbrev pub RestsEnd : Type 0
RestsEnd = (w : World) (x : Nest) (f : Frame) (fs : List Frame) (p : Parser) (d : Doc) (left : List ℕ) (g : Course) →
    x.frames ≡ f ∷ fs → x.pending ≡ None → HasParsed w.entities x.parser x.doc f.rest p d left stop.InputEnd →
    NestComesTo w (parsed_to p d [] f fs x) g → NestComesTo w x g

-- up to a script's end tag
abbrev pub RestsStop : Type 0
RestsStop = (w : World) (x : Nest) (f : Frame) (fs : List Frame) (p : Parser) (d : Doc) (left : List ℕ) (i : NodeId) (g : Course) →
    x.frames ≡ f ∷ fs → x.pending ≡ None → HasParsed w.entities x.parser x.doc f.rest p d left (stop.Script i) →
    TagComesTo w i (parsed_to p d left f fs x) g → NestComesTo w x g

-- up to a push that is refused
abbrev pub RestsRefuse : Type 0
RestsRefuse = (w : World) (x : Nest) (f : Frame) (fs : List Frame) (p : Parser) (d : Doc) (left : List ℕ) →
    x.frames ≡ f ∷ fs → x.pending ≡ None → HasParsed w.entities x.parser x.doc f.rest p d left stop.Deep →
    NestComesTo w x (refuses why.Depth (state_of (parsed_to p d left f fs x)))

-- ---- the innermost frame's statements

-- the parser doesn't go on: a script is pending, or the frame's text is used
abbrev pub Waits : Option (List ℕ) → List ℕ → Type 0
Waits None rest = rest ≡ []
Waits (Some name) rest = ⊤

-- The script of the innermost frame ends: what is left of its text stands before that of the frame around it.
abbrev pub frame_ended : List ℕ → List Frame → Nest → Nest
frame_ended rest [] x = record x { frames = []; behind = rest ++ x.behind }
frame_ended rest (f ∷ fs) x = record x { frames = record f { rest = rest ++ f.rest } ∷ fs }

abbrev pub FrameEnds : Type 0
FrameEnds = (w : World) (x : Nest) (f : Frame) (fs : List Frame) (g : Course) → x.frames ≡ f ∷ fs → f.list ≡ [] → Waits x.pending f.rest →
    NestComesTo w (frame_ended f.rest fs x) g → NestComesTo w x g

-- a text was written
abbrev pub wrote : List ℕ → List Statement → Frame → List Frame → Nest → Nest
wrote t list f fs x = record x { written = x.written + length t; frames = record f { list = list; rest = f.rest ++ t } ∷ fs }

abbrev pub WritesFit : Type 0
WritesFit = (w : World) (x : Nest) (f : Frame) (fs : List Frame) (t : List ℕ) (list : List Statement) (g : Course) →
    x.frames ≡ f ∷ fs → f.list ≡ statement.Write t ∷ list → Waits x.pending f.rest → x.written + length t ≤ write_limit →
    NestComesTo w (wrote t list f fs x) g → NestComesTo w x g

-- a write of more than scripts may write inserts nothing
abbrev pub WritesRefuse : Type 0
WritesRefuse = (w : World) (x : Nest) (f : Frame) (fs : List Frame) (t : List ℕ) (list : List Statement) →
    x.frames ≡ f ∷ fs → f.list ≡ statement.Write t ∷ list → Waits x.pending f.rest → write_limit < x.written + length t →
    NestComesTo w x (refuses why.Writes (state_of x))

-- document.writeln() writes the text and a line feed
abbrev pub LinesFit : Type 0
LinesFit = (w : World) (x : Nest) (f : Frame) (fs : List Frame) (t : List ℕ) (list : List Statement) (g : Course) →
    x.frames ≡ f ∷ fs → f.list ≡ statement.WriteLine t ∷ list → Waits x.pending f.rest → x.written + length (with_line_feed t) ≤ write_limit →
    NestComesTo w (wrote (with_line_feed t) list f fs x) g → NestComesTo w x g

-- or neither of them
abbrev pub LinesRefuse : Type 0
LinesRefuse = (w : World) (x : Nest) (f : Frame) (fs : List Frame) (t : List ℕ) (list : List Statement) →
    x.frames ≡ f ∷ fs → f.list ≡ statement.WriteLine t ∷ list → Waits x.pending f.rest → write_limit < x.written + length (with_line_feed t) →
    NestComesTo w x (refuses why.Writes (state_of x))

-- an element was removed
abbrev pub removed : ℕ → List Statement → Frame → List Frame → Nest → Nest
removed e list f fs x = record x { doc = record x.doc { tree = detached x.doc.tree e }; frames = record f { list = list } ∷ fs }

abbrev pub Removes : Type 0
Removes = (w : World) (x : Nest) (f : Frame) (fs : List Frame) (v : List ℕ) (list : List Statement) (e : ℕ) (g : Course) →
    x.frames ≡ f ∷ fs → f.list ≡ statement.Remove v ∷ list → Waits x.pending f.rest → find_id x.doc.tree v ≡ Some e →
    NestComesTo w (removed e list f fs x) g → NestComesTo w x g

-- an element was moved, which left this tree
abbrev pub has_moved : Nodes → List Statement → Frame → List Frame → Nest → Nest
has_moved t list f fs x = record x { doc = record x.doc { tree = t }; frames = record f { list = list } ∷ fs }

abbrev pub Appends : Type 0
Appends = (w : World) (x : Nest) (f : Frame) (fs : List Frame) (v c : List ℕ) (list : List Statement) (t : Nodes) (g : Course) →
    x.frames ≡ f ∷ fs → f.list ≡ statement.Append v c ∷ list → Waits x.pending f.rest → appended x.doc.tree (find_id x.doc.tree v) (find_id x.doc.tree c) ≡ Some t →
    NestComesTo w (has_moved t list f fs x) g → NestComesTo w x g

-- the children of an element were set, which left this tree
abbrev pub Fills : Type 0
Fills = (w : World) (x : Nest) (f : Frame) (fs : List Frame) (v c : List ℕ) (list : List Statement) (t : Nodes) (g : Course) →
    x.frames ≡ f ∷ fs → f.list ≡ statement.SetInner v c ∷ list → Waits x.pending f.rest → inner_set w.entities x.parser.open_state.quirks x.doc.tree (find_id x.doc.tree v) c ≡ setting t →
    NestComesTo w (has_moved t list f fs x) g → NestComesTo w x g

-- or the fragment is too deep
abbrev pub FillsRefuse : Type 0
FillsRefuse = (w : World) (x : Nest) (f : Frame) (fs : List Frame) (v c : List ℕ) (list : List Statement) →
    x.frames ≡ f ∷ fs → f.list ≡ statement.SetInner v c ∷ list → Waits x.pending f.rest → inner_set w.entities x.parser.open_state.quirks x.doc.tree (find_id x.doc.tree v) c ≡ too_deep →
    NestComesTo w x (refuses why.Depth (state_of x))

-- an element was read
abbrev pub has_read : ℕ → List Statement → Frame → List Frame → Nest → Nest
has_read e list f fs x = record x { lines = x.lines ++ line.Log f.number (outer_text x.doc.tree e) ∷ []; frames = record f { list = list } ∷ fs }

abbrev pub ReadsById : Type 0
ReadsById = (w : World) (x : Nest) (f : Frame) (fs : List Frame) (v : List ℕ) (list : List Statement) (e : ℕ) (g : Course) →
    x.frames ≡ f ∷ fs → f.list ≡ statement.LogById v ∷ list → Waits x.pending f.rest → find_id x.doc.tree v ≡ Some e →
    NestComesTo w (has_read e list f fs x) g → NestComesTo w x g

abbrev pub ReadsRoot : Type 0
ReadsRoot = (w : World) (x : Nest) (f : Frame) (fs : List Frame) (list : List Statement) (e : ℕ) (g : Course) →
    x.frames ≡ f ∷ fs → f.list ≡ statement.LogRoot ∷ list → Waits x.pending f.rest → first_element x.doc.tree ≡ Some e →
    NestComesTo w (has_read e list f fs x) g → NestComesTo w x g

-- an element that the statement names isn't there, or can't be put where it says
abbrev pub LacksElement : Nodes → Statement → Type 0
LacksElement t (statement.Write v) = ⊥
LacksElement t (statement.WriteLine v) = ⊥
LacksElement t (statement.Remove v) = find_id t v ≡ None
LacksElement t (statement.Append v c) = appended t (find_id t v) (find_id t c) ≡ None
LacksElement t (statement.SetInner v c) = find_id t v ≡ None
LacksElement t (statement.LogById v) = find_id t v ≡ None
LacksElement t statement.LogRoot = first_element t ≡ None

-- the script ends with a line
abbrev pub thrown : Frame → List Frame → Nest → Nest
thrown f fs x = record x { lines = x.lines ++ line.Throw f.number ∷ []; frames = record f { list = [] } ∷ fs }

abbrev pub Throws : Type 0
Throws = (w : World) (x : Nest) (f : Frame) (fs : List Frame) (a : Statement) (list : List Statement) (g : Course) →
    x.frames ≡ f ∷ fs → f.list ≡ a ∷ list → Waits x.pending f.rest → LacksElement x.doc.tree a →
    NestComesTo w (thrown f fs x) g → NestComesTo w x g
