-- The serial parse of a page: its characters one by one (13.2.3 #the-input-byte-stream,
-- 13.2.5 #tokenization), and its scripts where their end tags are met
-- (13.2.6.4.8 #parsing-main-incdata, the document.write() steps).
use Rattle.std.specs.Prelude.{◌≡◌, ℕ, zero, suc, ◌+◌, ◌-◌, nat_le, Bool, true, false, List, [], ◌∷◌, ◌++◌, length, take, drop, Option, Some, None, option_and_then}
use Rattle.html_types.specs.declared.operation.NodeId.{NodeId}
use Rattle.html_types.specs.declared.ending.Ending.{Ending}
use Rattle.html_types.specs.declared.ending.Ending.TheVariants as ending
use Rattle.html_types.specs.declared.ending.Why.{Why}
use Rattle.html_types.specs.declared.ending.Why.TheVariants as why
use Rattle.serial.specs.declared.script.Statement.{Statement}
use Rattle.serial.specs.declared.script.Statement.TheVariants as statement
use Rattle.serial.specs.declared.script.Line.{Line}
use Rattle.serial.specs.declared.script.Line.TheVariants as line
use Rattle.html_types.specs.declared.instruction.Stop.{Stop}
use Rattle.html_types.specs.declared.instruction.Stop.TheVariants as stop
use Rattle.html_types.specs.declared.instruction.Finish.TheVariants as finale
use Rattle.serial.specs.Page.{Page}
use Rattle.standard.specs.Entities.{Entities}
use Rattle.standard.specs.Tree.{Nodes, detached, appended, find_id, first_element}
use Rattle.standard.specs.Act.{Doc, new_doc, acts, node_of}
use Rattle.standard.specs.Outer.{outer_text}
use Rattle.standard.specs.Prepare.{Prepared, still, inline, external, prepare}
use Rattle.serial.specs.Scripts.{Fetched, got, missing, faulted, is_lawful, file_statements}
use Rattle.serial.specs.Statements.{statements}
use Rattle.standard.specs.Fragment.{Setting, lacking, too_deep, setting, inner_set}
use Rattle.standard.specs.Parser.{Parser, new_parser, Took, took, take_character, Finished, finish}

-- ---- what a parse is given

-- what stays the same over a parse
pub record World : Type 0 where
  pub entities : Entities
  -- the files of external scripts, by their names
  pub scripts : List ℕ → Fetched

-- a name that isn't lawful is missing
abbrev pub fetched_if : Bool → World → List ℕ → Fetched
fetched_if false w name = missing
fetched_if true w name = w.scripts name

abbrev pub fetched : World → List ℕ → Fetched
fetched w name = fetched_if (is_lawful name) w name

-- ---- the state

-- what the document's side holds
pub record Side : Type 0 where
  pub doc : Doc
  -- the script nesting level
  pub level : ℕ
  -- the `src` of the pending parsing-blocking script
  pub pending : Option (List ℕ)
  -- the characters written and the scripts executed so far
  pub written : ℕ
  pub executed : ℕ
  pub lines : List Line

pub record Serial : Type 0 where
  pub input : List ℕ
  -- the insertion point: how many characters of the input stand after it
  pub point : ℕ
  pub parser : Parser
  pub side : Side

pub data Result : Type 0 where
  finished : Result
  refused : Why → Result

-- the result, and the state in which the parse ended, whose lines and tree are those that are written
pub record Outcome : Type 0 where
  pub result : Result
  pub last : Serial

abbrev pub refusal : Why → Serial → Outcome
refusal w s = record { result = refused w; last = s }

abbrev pub first : Page → Serial
first page = record {
  input = page.text;
  point = 0;
  parser = new_parser 0;
  side = record { doc = new_doc; level = 0; pending = None; written = 0; executed = 0; lines = [] };
}

-- A part of the parse goes on, or refuses, or runs out of fuel.
pub data Course : Type 0 where
  goes : Serial → Course
  refuses : Why → Serial → Course
  starved : Course

infixl 20 ◌then◌
abbrev pub ◌then◌ : Course → (Serial → Course) → Course
(goes s) then f = f s
(refuses w s) then f = refuses w s
starved then f = starved

abbrev pub with_line : Line → Serial → Serial
with_line l s = record s { side = record s.side { lines = s.side.lines ++ l ∷ [] } }

-- ---- the parser takes characters one by one, and each operation is done at once, up to a stop

pub data Advanced : Type 0 where
  advanced : Parser → Doc → List ℕ → Stop → Advanced

-- a character's operations are done, and then the rest is read, unless the parser stops there
abbrev pub done_then : Took → Doc → List ℕ → (Parser → Doc → Advanced) → Advanced
done_then (took ops p stop.InputEnd) d cs rest = rest p (acts d ops)
done_then (took ops p s) d cs rest = advanced p (acts d ops) cs s

unfoldable pub advance : Entities → Parser → Doc → List ℕ → Advanced
advance es p d [] = advanced p d [] stop.InputEnd
advance es p d (c ∷ cs) = done_then (take_character es p c) d cs (λ p' d'. advance es p' d' cs)

abbrev pub before_point : Serial → List ℕ
before_point s = take (length s.input - s.point) s.input

abbrev pub after_point : Serial → List ℕ
after_point s = drop (length s.input - s.point) s.input

abbrev pub moved : Parser → Doc → List ℕ → Serial → Serial
moved p d rest s = record s { input = rest ++ after_point s; parser = p; side = record s.side { doc = d } }

-- ---- scripts

-- the characters that all scripts of a page may write
abbrev pub write_limit : ℕ
write_limit = 1048576

abbrev pub tree_of : Serial → Nodes
tree_of s = s.side.doc.tree

-- what document.writeln() writes: the text and a line feed
abbrev pub with_line_feed : List ℕ → List ℕ
with_line_feed t = t ++ 10 ∷ []

-- whether scripts may write the text too
abbrev pub may_write : List ℕ → Serial → Bool
may_write t s = nat_le (s.side.written + length t) write_limit

-- the text stands in the input just before the insertion point
abbrev pub insert : List ℕ → Serial → Serial
insert t s = record s { input = before_point s ++ t ++ after_point s; side = record s.side { written = s.side.written + length t } }

abbrev pub at_level : ℕ → Serial → Serial
at_level k s = record s { side = record s.side { level = k } }

abbrev pub at_point : ℕ → Serial → Serial
at_point n s = record s { point = n }

-- the parser waits for the script of that name, or for none
abbrev pub awaiting : Option (List ℕ) → Serial → Serial
awaiting name s = record s { side = record s.side { pending = name } }

abbrev pub one_more_executed : Serial → Serial
one_more_executed s = record s { side = record s.side { executed = suc s.side.executed } }

-- the level and the insertion point are again those of s
abbrev pub back_at : Serial → Serial → Serial
back_at s t = at_level s.side.level (at_point s.point t)

-- one level up, with the insertion point just before the next input character
abbrev pub inside : Serial → Serial
inside s = at_level (suc s.side.level) (at_point (length s.input) s)

-- a script changed the tree
abbrev pub with_tree : Nodes → Serial → Serial
with_tree t s = record s { side = record s.side { doc = record s.side.doc { tree = t } } }

-- the element is taken out of its parent
abbrev pub remove : ℕ → Serial → Serial
remove e s = with_tree (detached (tree_of s) e) s

-- script k reads the element
abbrev pub read : ℕ → ℕ → Serial → Serial
read k e s = with_line (line.Log k (outer_text (tree_of s) e)) s

-- the script of that id, prepared on the tree as it is
abbrev pub prepared : NodeId → Serial → Prepared
prepared i s = prepare s.side.doc.tree (node_of s.side.doc.bound i)

-- Each function takes the value that it goes by as an argument, and the fuel first. The number k is that of the executing
-- script, counted from 1 over the scripts executed.
unfoldable mutual
  -- a text runs: the statements of its language, or none
  pub execute : ℕ → World → Option (List Statement) → Serial → Course
  execute zero w text s = starved
  execute (suc n) w None s = goes (with_line (line.Syntax (suc s.side.executed)) (one_more_executed s))
  execute (suc n) w (Some list) s = run_statements n w (suc s.side.executed) list (one_more_executed s)

  pub run_statements : ℕ → World → ℕ → List Statement → Serial → Course
  run_statements zero w k list s = starved
  run_statements (suc n) w k [] s = goes s
  run_statements (suc n) w k (statement.Write t ∷ list) s =
      write n w (may_write t s) t s then λ s'. run_statements n w k list s'
  run_statements (suc n) w k (statement.WriteLine t ∷ list) s =
      write n w (may_write (with_line_feed t) s) (with_line_feed t) s then λ s'. run_statements n w k list s'
  run_statements (suc n) w k (statement.Remove v ∷ list) s = on_element n w k list remove (find_id (tree_of s) v) s
  run_statements (suc n) w k (statement.Append v c ∷ list) s = on_move n w k list (appended (tree_of s) (find_id (tree_of s) v) (find_id (tree_of s) c)) s
  run_statements (suc n) w k (statement.SetInner v t ∷ list) s =
      on_set n w k list (inner_set w.entities s.parser.open_state.quirks (tree_of s) (find_id (tree_of s) v) t) s
  run_statements (suc n) w k (statement.LogById v ∷ list) s = on_element n w k list (read k) (find_id (tree_of s) v) s
  run_statements (suc n) w k (statement.LogRoot ∷ list) s = on_element n w k list (read k) (first_element (tree_of s)) s

  -- what a statement does to an element, or the end of this text where there is none
  pub on_element : ℕ → World → ℕ → List Statement → (ℕ → Serial → Serial) → Option ℕ → Serial → Course
  on_element zero w k list work found s = starved
  on_element (suc n) w k list work None s = goes (with_line (line.Throw k) s)
  on_element (suc n) w k list work (Some e) s = run_statements n w k list (work e s)

  -- the tree that a move leaves, or the end of this text where the move can't be made; no script is prepared by it
  pub on_move : ℕ → World → ℕ → List Statement → Option Nodes → Serial → Course
  on_move zero w k list t s = starved
  on_move (suc n) w k list None s = goes (with_line (line.Throw k) s)
  on_move (suc n) w k list (Some t) s = run_statements n w k list (with_tree t s)

  -- the tree in which an element's children are those of a fragment, or the end of this text where there is no such element; at a push that
  -- would open element 513 the page is refused, and the tree is as before. No script of a fragment is prepared
  pub on_set : ℕ → World → ℕ → List Statement → Setting → Serial → Course
  on_set zero w k list t s = starved
  on_set (suc n) w k list lacking s = goes (with_line (line.Throw k) s)
  on_set (suc n) w k list too_deep s = refuses why.Depth s
  on_set (suc n) w k list (setting t) s = run_statements n w k list (with_tree t s)

  -- document.write(), and of all that it writes document.writeln(): past the limit nothing is inserted
  pub write : ℕ → World → Bool → List ℕ → Serial → Course
  write zero w fits t s = starved
  write (suc n) w false t s = refuses why.Writes s
  write (suc n) w true t s = go_on n w s.side.pending (insert t s)

  -- the parser goes on up to the insertion point, unless a script is pending
  pub go_on : ℕ → World → Option (List ℕ) → Serial → Course
  go_on zero w pending s = starved
  go_on (suc n) w None s = stopped n w s (advance w.entities s.parser s.side.doc (before_point s))
  go_on (suc n) w (Some name) s = goes s

  -- the parser took the characters before the insertion point, or those up to a stop
  pub stopped : ℕ → World → Serial → Advanced → Course
  stopped zero w s a = starved
  stopped (suc n) w s (advanced p d rest stop.InputEnd) = goes (moved p d rest s)
  stopped (suc n) w s (advanced p d rest (stop.Script i)) = end_of_script n w i (moved p d rest s) then λ t. go_on n w t.side.pending t
  stopped (suc n) w s (advanced p d rest stop.Deep) = refuses why.Depth (moved p d rest s)

  -- the end tag of a script: it is prepared one level up, with the insertion point just before the next input character
  pub end_of_script : ℕ → World → NodeId → Serial → Course
  end_of_script zero w i s = starved
  end_of_script (suc n) w i s = run_prepared n w (prepared i s) (inside s) then λ t. goes (back_at s t)

  pub run_prepared : ℕ → World → Prepared → Serial → Course
  run_prepared zero w k s = starved
  run_prepared (suc n) w still s = goes s
  run_prepared (suc n) w (inline t) s = execute n w (statements t) s
  run_prepared (suc n) w (external name) s = goes (awaiting (Some name) s)

-- a script that was awaited runs, one level up
abbrev pub run_text : ℕ → World → Option (List Statement) → Serial → Course
run_text n w text s = execute n w text (inside s) then λ t. goes (back_at s t)

-- ---- the moments at level 0

pub data Moment : Type 0 where
  -- between two characters
  reading : Serial → Moment
  -- a script end tag was met
  tag_ended : NodeId → Serial → Moment
  -- the script of that name is awaited; it is pending no more
  awaits : List ℕ → Serial → Moment
  over : Outcome → Moment

-- at level 0 the insertion point is at the end of the input
abbrev pub taken : Parser → Doc → List ℕ → Serial → Serial
taken p d cs s = record s { input = cs; parser = p; side = record s.side { doc = d } }

abbrev pub at_end : Serial → Finished → Outcome
at_end s f =
    let last = taken f.parser (acts s.side.doc f.ops) [] s in
    elim f.finish [ finale.Finished ↦ record { result = finished; last = last } | finale.Deep ↦ refusal why.Depth last ]

-- the input is used: the page's ending is applied
abbrev pub ended : Entities → Ending → Serial → Outcome
ended es ending.End s = at_end s (finish es s.parser)
ended es ending.Bad s = refusal why.BadUtf8 s
ended es ending.Long s = refusal why.Page s
ended es ending.Fault s = refusal why.Fault s

-- one character was taken
abbrev pub after_character : Serial → List ℕ → Took → Moment
after_character s cs (took ops p stop.InputEnd) = reading (taken p (acts s.side.doc ops) cs s)
after_character s cs (took ops p (stop.Script i)) = tag_ended i (taken p (acts s.side.doc ops) cs s)
after_character s cs (took ops p stop.Deep) = over (refusal why.Depth (taken p (acts s.side.doc ops) cs s))

-- the pending script is cleared and awaited; where none is, the parser goes on
abbrev pub unless_pending : Option (List ℕ) → Serial → Moment
unless_pending None s = reading s
unless_pending (Some name) s = awaits name (awaiting None s)

-- the moment behind a script, at level 0 again
abbrev pub behind_script : Serial → Moment
behind_script t = unless_pending t.side.pending t

abbrev pub after_script : Course → Option Moment
after_script (goes t) = Some (behind_script t)
after_script (refuses w t) = Some (over (refusal w t))
after_script starved = None

-- the awaited script was fetched
abbrev pub after_fetch : ℕ → World → List ℕ → Serial → Fetched → Option Moment
after_fetch n w name s (got bytes) = after_script (run_text n w (file_statements bytes) s)
after_fetch n w name s missing = Some (reading (with_line (line.Miss name) s))
after_fetch n w name s faulted = Some (over (refusal why.Fault s))

abbrev pub read_next : Entities → Ending → Serial → List ℕ → Moment
read_next es e s [] = over (ended es e s)
read_next es e s (c ∷ cs) = after_character s cs (take_character es s.parser c)

-- the moment after this one, with fuel for the script that runs between them
unfoldable pub moment_after : ℕ → Ending → World → Moment → Option Moment
moment_after n e w (reading s) = Some (read_next w.entities e s s.input)
moment_after n e w (tag_ended i s) = after_script (end_of_script n w i s)
moment_after n e w (awaits name s) = after_fetch n w name s (fetched w name)
moment_after n e w (over o) = Some (over o)

-- k moments on from m
abbrev pub moments_on : ℕ → ℕ → Ending → World → Moment → Option Moment
moments_on zero n e w m = Some m
moments_on (suc k) n e w m = option_and_then (λ m'. moments_on k n e w m') (moment_after n e w m)

abbrev pub outcome_in : Moment → Option Outcome
outcome_in (over o) = Some o
outcome_in _ = None

-- with fuel for the moments and as much for each script
unfoldable pub serial_with : ℕ → Page → World → Option Outcome
serial_with n page w = option_and_then outcome_in (moments_on n n page.ending w (reading (first page)))

-- what the parse of the page comes to
abbrev pub IsSerial : Page → World → Outcome → Type 0
IsSerial page w o = (n : ℕ) × (serial_with n page w ≡ Some o)

-- some moments on from the first comes the second
abbrev pub Leads : Ending → World → Moment → Moment → Type 0
Leads e w m m' = (k : ℕ) × (n : ℕ) × (moments_on k n e w m ≡ Some m')

-- a moment that the parse of the page passes through
abbrev pub Passes : Page → World → Moment → Type 0
Passes page w m = Leads page.ending w (reading (first page)) m
