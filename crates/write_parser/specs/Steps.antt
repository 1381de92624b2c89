-- The steps of a writer, while memory lasts: what it holds as the nested scripts of the definitions, and what each part of a
-- call does to them.
use Rattle.std.specs.Prelude.{◌≡◌, ◌≢◌, ◌<◌, ◌≤◌, ◌+◌, ◌*◌, ◌-◌, ⊤, ℕ, suc, Bool, false, List, [], ◌∷◌, ◌++◌, length, map, reverse, drop, fold, Option, Some, None}
use Rattle.html_types.specs.declared.operation.NodeId.{NodeId}
use Rattle.serial.specs.declared.script.Statement.{Statement}
use Rattle.html_types.specs.declared.ending.Why.{Why}
use Rattle.html_types.specs.declared.ending.Why.TheVariants as why
use Rattle.serial.specs.declared.script.Line.{Line}
use Rattle.serial.specs.declared.script.Line.TheVariants as line
use Rattle.standard.specs.Entities.{Entities}
use Rattle.standard.specs.Tree.{Nodes, detached}
use Rattle.standard.specs.Act.{Doc}
use Rattle.standard.specs.Fragment.{Setting, lacking, too_deep, setting}
use Rattle.standard.specs.Outer.{outer_text}
use Rattle.serial.specs.Statements.{statements}
use Rattle.serial.specs.Serial.{World, Course, write_limit}
use Rattle.standard_laws.specs.Frames.{Frame, Nest, rests, NestComesTo, TagComesTo, TextComesTo, Waits, LacksElement}
use Rattle.write_parser.specs.declared.nesting.Begun.{Begun}
use Rattle.write_parser.specs.declared.nesting.Nesting.{Nesting}
use Rattle.write_parser.specs.declared.live.Live.{Live}
use Rattle.write_parser.specs.declared.live.Did.{Did}
use Rattle.write_parser.specs.declared.live.Did.TheVariants as did
use Rattle.write_parser.specs.declared.live.Progress.{Progress}
use Rattle.write_parser.specs.declared.live.Progress.TheVariants as turn
use Rattle.write_parser.specs.Parsing.{IsServed}
use Rattle.write_parser.specs.Writing.{View, first_view, IsRefusal, LeadsTo, Stands, left_to_do}
use Rattle.doc_changes.specs.Changes.{changed}
use Rattle.doc_changes.specs.Logs.{LogView}
use Rattle.write_parser.specs.Made.{of_statement, written_by, At, BeginsBy, IsPrepared, Made, LogsBy}

-- ---- what it holds

abbrev pub view_of : Live → Bool → View
view_of l spent = record {
  parser = l.machine;
  doc = l.doc;
  written = l.written;
  executed = l.executed;
  lines = l.lines;
  rest = l.rest;
  pending = l.pending;
  halted = l.halted;
  spent = spent;
}

-- the parser may go on
pub record IsGoing (l : Live) : Type 0 where
  pub served : IsServed l.machine l.doc
  pub halted : l.halted ≡ None

pub record IsFirst (realm : ℕ) (l : Live) : Type 0 where
  pub view : view_of l false ≡ first_view realm
  pub served : IsServed l.machine l.doc

-- ---- as nested scripts

abbrev pub framed : ℕ → List Statement → List ℕ → Frame
framed k list rest = record { number = k; list = list; rest = rest }

abbrev pub frame_of : Begun → Frame
frame_of b = framed b.number (drop b.done b.script) b.rest

abbrev pub frames_of : Nesting → List Frame
frames_of n = frame_of n.top ∷ map frame_of (reverse n.below.items)

-- a script more, if one was begun
abbrev pub with_begun : Option Begun → List Frame → List Frame
with_begun None fs = fs
with_begun (Some b) fs = frame_of b ∷ fs

-- nested scripts, with those lines before and that text of the page behind
abbrev pub nest_of : Live → List Frame → List Line → List ℕ → Nest
nest_of l fs before page = record {
  parser = l.machine;
  doc = l.doc;
  pending = l.pending;
  written = l.written;
  executed = l.executed;
  lines = before ++ l.lines;
  frames = fs;
  behind = l.rest ++ page;
}

-- where the parse stands with them
abbrev pub at_of : Live → List Frame → At
at_of l fs = record { parser = l.machine; doc = l.doc; rest = l.rest; frames = fs; pending = l.pending; halted = l.halted }

-- The log gained the changes that were made from nested scripts to nested scripts.
abbrev pub LogsMade : Entities → Live → List Frame → Live → List Frame → LogView → LogView → Type 0
LogsMade es old fs new fs' log log' = LogsBy (λ more. Made es (at_of old fs) more (at_of new fs')) log log'

-- ---- what comes of them

-- What comes of the new state is `Of` the old; where the page is refused, that is.
abbrev pub ThenBy : Option Why → World → (Course → Type 0) → Live → List Frame → List Line → List ℕ → Type 0
ThenBy None w Of new fs before page = (g : Course) → NestComesTo w (nest_of new fs before page) g → Of g
ThenBy (Some l) w Of new fs before page = (g : Course) × IsRefusal l (view_of new false) before g × Of g

abbrev pub Then : World → (Course → Type 0) → Live → List Frame → List Line → List ℕ → Type 0
Then w Of new fs before page = ThenBy new.halted w Of new fs before page

-- from nested scripts to nested scripts, in each world with these entities
pub record Turns (es : Entities) (old : Live) (fs : List Frame) (new : Live) (fs' : List Frame) : Type 0 where
  pub turns : (w : World) (before : List Line) (page : List ℕ) → w.entities ≡ es → Then w (NestComesTo w (nest_of old fs before page)) new fs' before page

-- what is left to do, with what the scripts wrote that were begun: each step of the parser makes it less
abbrev pub weight : Live → List Frame → ℕ
weight l fs = left_to_do (view_of l false) + 2 * length (rests fs)

-- the statements that are left, and the ends of the scripts
abbrev pub steps_of : List Frame → ℕ
steps_of [] = 0
steps_of (f ∷ fs) = suc (length f.list) + steps_of fs

-- A part of a call went from nested scripts to nested scripts.
pub record Moves (es : Entities) (old : Live) (fs : List Frame) (new : Live) (fs' : List Frame) : Type 0 where
  pub turns : Turns es old fs new fs'
  pub served : IsServed new.machine new.doc
  pub weight : weight new fs' ≤ weight old fs

-- no script is left, or the page is refused
abbrev pub frames_at : Progress → Nesting → List Frame
frames_at turn.On n = frames_of n
frames_at turn.Over n = []

-- ---- the end tag of a script, and its text

-- A script was begun, with nothing written, or none was.
abbrev pub WroteNothing : Option Begun → Type 0
WroteNothing None = ⊤
WroteNothing (Some b) = b.rest ≡ []

-- but for the scripts executed, the lines and the script that is pending all is as before
abbrev pub Keeps : Live → Live → Type 0
Keeps old new = new ≡ record old { executed = new.executed; lines = new.lines; pending = new.pending }

-- The text of a script was read: what comes of the script begun, comes of the text. No other script comes to be awaited.
pub record Begins (text : List ℕ) (old : Live) (begun : Option Begun) (new : Live) : Type 0 where
  pub comes : (w : World) (fs : List Frame) (before : List Line) (page : List ℕ) (g : Course) →
      NestComesTo w (nest_of new (with_begun begun fs) before page) g → TextComesTo w (statements text) (nest_of old fs before page) g
  pub keeps : Keeps old new
  pub pending : new.pending ≡ old.pending
  pub wrote : WroteNothing begun
  pub begins : (fs : List Frame) → BeginsBy (statements text) (at_of old fs) (at_of new (with_begun begun fs))

-- A script was prepared at its end tag.
pub record Prepares (id : NodeId) (old : Live) (begun : Option Begun) (new : Live) : Type 0 where
  pub comes : (w : World) (fs : List Frame) (before : List Line) (page : List ℕ) (g : Course) →
      NestComesTo w (nest_of new (with_begun begun fs) before page) g → TagComesTo w id (nest_of old fs before page) g
  pub keeps : Keeps old new
  pub wrote : WroteNothing begun
  pub prepared : (fs : List Frame) → IsPrepared id (at_of old fs) (at_of new (with_begun begun fs))

-- ---- statements

-- the parser goes on in a text
pub record Continues (awaited : Option (List ℕ)) (text : List ℕ) : Type 0 where
  pub pending : awaited ≡ None
  pub rest : text ≢ []

pub record HasWritten (old : Live) (rest text : List ℕ) (new : Live) (rest' : List ℕ) (d : Did) : Type 0 where
  pub fits : old.written + length text ≤ write_limit → (new ≡ record old { written = old.written + length text }) × (rest' ≡ rest ++ text)
  pub long : write_limit < old.written + length text → (new ≡ record old { halted = Some why.Writes }) × (rest' ≡ rest)
  pub did : d ≡ did.All

-- the element, if it is there, was taken out of its parent
abbrev pub HasRemoved : Option ℕ → Live → Live → Did → Type 0
HasRemoved None old new d = (new ≡ old) × (d ≡ did.Nothing)
HasRemoved (Some e) old new d = (new ≡ record old { doc = record old.doc { tree = detached old.doc.tree e } }) × (d ≡ did.All)

-- an element was moved, which left this tree, if that can be done
abbrev pub HasAppended : Option Nodes → Live → Live → Did → Type 0
HasAppended None old new d = (new ≡ old) × (d ≡ did.Nothing)
HasAppended (Some t) old new d = (new ≡ record old { doc = record old.doc { tree = t } }) × (d ≡ did.All)

-- the children of an element, if it is there, were set, which left this tree, or the fragment is too deep
abbrev pub HasSet : Setting → Live → Live → Did → Type 0
HasSet lacking old new d = (new ≡ old) × (d ≡ did.Nothing)
HasSet too_deep old new d = (new ≡ record old { halted = Some why.Depth }) × (d ≡ did.All)
HasSet (setting t) old new d = (new ≡ record old { doc = record old.doc { tree = t } }) × (d ≡ did.All)

-- the element, if it is there, was read
abbrev pub HasRead : ℕ → Option ℕ → Live → Live → Did → Type 0
HasRead k None old new d = (new ≡ old) × (d ≡ did.Nothing)
HasRead k (Some e) old new d = (new ≡ record old { lines = old.lines ++ line.Log k (outer_text old.doc.tree e) ∷ [] }) × (d ≡ did.All)

-- the statements left behind one
abbrev pub left_by : Did → List Statement → List Statement
left_by did.All list = list
left_by did.Nothing list = []

-- A statement, the first that the innermost script has left, was done, but for the line that says that its element isn't there or can't be moved so.
abbrev pub DoneBy : Entities → Did → ℕ → Statement → Live → List ℕ → Live → List ℕ → Type 0
DoneBy es did.All k a old rest new rest' =
    (list : List Statement) (fs : List Frame) → Turns es old (framed k (a ∷ list) rest ∷ fs) new (framed k list rest' ∷ fs)
DoneBy es did.Nothing k a old rest new rest' = (new ≡ old) × (rest' ≡ rest) × LacksElement old.doc.tree a

-- what is left to parse and to write didn't grow
pub record IsLight (old : Live) (rest : List ℕ) (new : Live) (rest' : List ℕ) : Type 0 where
  pub light : (write_limit - new.written) + length rest' ≤ (write_limit - old.written) + length rest
  pub behind : new.rest ≡ old.rest
  pub pending : new.pending ≡ old.pending

-- where the element of a statement isn't there the script ends, and nowhere else
abbrev pub LacksBy : Did → Nodes → Statement → Type 0
LacksBy did.All t a = LacksElement t a → ⊥
LacksBy did.Nothing t a = LacksElement t a

-- the document, behind the changes of a statement
abbrev pub changed_by : Entities → Statement → Live → Doc
changed_by es a l = fold changed l.doc (of_statement es l.machine.open_state.quirks l.doc.tree a)

pub record DoesMost (es : Entities) (k : ℕ) (a : Statement) (old : Live) (rest : List ℕ) (new : Live) (rest' : List ℕ) (d : Did) : Type 0 where
  pub done : DoneBy es d k a old rest new rest'
  pub served : IsServed new.machine new.doc
  pub light : IsLight old rest new rest'
  pub lacks : LacksBy d old.doc.tree a
  pub writes : new.halted ≡ None → rest' ≡ rest ++ written_by a
  pub doc : new.doc ≡ changed_by es a old
  pub machine : new.machine ≡ old.machine

-- The same with that line, behind which the script has no statement left.
pub record Does (es : Entities) (k : ℕ) (a : Statement) (old : Live) (rest : List ℕ) (new : Live) (rest' : List ℕ) (d : Did) : Type 0 where
  pub turns : (list : List Statement) (fs : List Frame) → Turns es old (framed k (a ∷ list) rest ∷ fs) new (framed k (left_by d list) rest' ∷ fs)
  pub served : IsServed new.machine new.doc
  pub light : IsLight old rest new rest'
  pub lacks : LacksBy d old.doc.tree a
  pub writes : new.halted ≡ None → rest' ≡ rest ++ written_by a
  pub doc : new.doc ≡ changed_by es a old
  pub machine : new.machine ≡ old.machine

-- One step of the innermost script.
pub record Steps (es : Entities) (old : Live) (n : Nesting) (new : Live) (n' : Nesting) (t : Progress) : Type 0 where
  pub moves : Moves es old (frames_of n) new (frames_at t n')
  pub on : t ≡ turn.On → (new.halted ≡ None) × (steps_of (frames_of n') < steps_of (frames_of n))

-- Statements ran up to a text that is to be parsed, or to the end.
pub record RunsOn (es : Entities) (old : Live) (n : Nesting) (new : Live) (n' : Nesting) (t : Progress) : Type 0 where
  pub moves : Moves es old (frames_of n) new (frames_at t n')
  pub on : t ≡ turn.On → (new.halted ≡ None) × Continues new.pending n'.top.rest

-- The text that the innermost script wrote was parsed up to a stop.
pub record ParsesOn (es : Entities) (old : Live) (n : Nesting) (new : Live) (n' : Nesting) (t : Progress) : Type 0 where
  pub moves : Moves es old (frames_of n) new (frames_at t n')
  pub on : t ≡ turn.On → (new.halted ≡ None) × (weight new (frames_of n') < weight old (frames_of n))

-- A script more was begun inside the others, if its end tag began one.
pub record Nests (id : NodeId) (old : Live) (n : Nesting) (new : Live) (n' : Nesting) : Type 0 where
  pub comes : (w : World) (before : List Line) (page : List ℕ) (g : Course) →
      NestComesTo w (nest_of new (frames_of n') before page) g → TagComesTo w id (nest_of old (frames_of n) before page) g
  pub keeps : Keeps old new
  pub rests : rests (frames_of n') ≡ rests (frames_of n)
  pub prepared : IsPrepared id (at_of old (frames_of n)) (at_of new (frames_of n'))

-- ---- whole scripts at level 0

pub record EndsTag (es : Entities) (id : NodeId) (old new : Live) : Type 0 where
  pub comes : (w : World) (before : List Line) (page : List ℕ) → w.entities ≡ es → Then w (TagComesTo w id (nest_of old [] before page)) new [] before page
  pub served : IsServed new.machine new.doc
  -- the script may be awaited
  pub weight : weight new [] ≤ suc (weight old [])

-- no script is awaited
abbrev pub awaits_none : Live → Live
awaits_none l = record l { pending = None }

pub record RunsText (es : Entities) (text : List ℕ) (old new : Live) : Type 0 where
  pub comes : (w : World) (before : List Line) (page : List ℕ) → w.entities ≡ es → Then w (TextComesTo w (statements text) (nest_of (awaits_none old) [] before page)) new [] before page
  pub served : IsServed new.machine new.doc
  pub less : left_to_do (view_of new false) ≤ left_to_do (view_of (awaits_none old) false)

abbrev pub Misses : Option (List ℕ) → Live → Live → Type 0
Misses None old new = new ≡ old
Misses (Some name) old new = new ≡ record old { lines = old.lines ++ line.Miss name ∷ []; pending = None }

-- Written text was parsed up to a stop, and the script there ran.
pub record FeedsOn (es : Entities) (old new : Live) : Type 0 where
  pub leads : LeadsTo es (Stands (view_of old false)) (view_of new false)
  pub served : IsServed new.machine new.doc
  pub weight : weight new [] < weight old []

-- the parser doesn't go on
abbrev pub IsFed : Live → Type 0
IsFed l = l.halted ≡ None → Waits l.pending l.rest

abbrev pub StaysAt : Option Why → Option (List ℕ) → Live → Live → Type 0
StaysAt None None old new = ⊤
StaysAt None (Some name) old new = new ≡ old
StaysAt (Some l) pending old new = new ≡ old

-- Written text was parsed as far as it goes.
pub record Fed (es : Entities) (old new : Live) : Type 0 where
  pub leads : LeadsTo es (Stands (view_of old false)) (view_of new false)
  pub served : IsServed new.machine new.doc
  pub fed : IsFed new
  pub stays : StaysAt old.halted old.pending old new
  pub less : left_to_do (view_of new false) ≤ left_to_do (view_of old false)
