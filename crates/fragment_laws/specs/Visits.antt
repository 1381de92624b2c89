-- What holds at each statement that the serial parse runs, and at each script's end tag that it meets.
use Rattle.std.specs.Prelude.{ℕ, zero, suc, Bool, true, false, List, [], ◌∷◌, Option, None, Some}
use Rattle.html_types.specs.declared.instruction.Stop.TheVariants as stop
use Rattle.html_types.specs.declared.operation.NodeId.{NodeId}
use Rattle.standard.specs.Tree.{Nodes, appended, find_id, first_element}
use Rattle.standard.specs.Prepare.{Prepared, still, inline, external}
use Rattle.standard.specs.Fragment.{Setting, lacking, too_deep, setting, inner_set}
use Rattle.serial.specs.declared.script.Statement.{Statement}
use Rattle.serial.specs.declared.script.Statement.TheVariants as statement
use Rattle.serial.specs.Page.{Page}
use Rattle.serial.specs.Scripts.{Fetched, got, missing, faulted, file_statements}
use Rattle.serial.specs.Statements.{statements}
use Rattle.serial.specs.Serial.{World, Serial, Course, goes, Advanced, advanced, advance, before_point, moved, tree_of, inside, insert, with_line_feed, may_write, with_tree, remove, read, one_more_executed, prepared, write, end_of_script, Moment, reading, tag_ended, awaits, over, fetched, Passes}

pub data Visit : Type 0 where
  -- the script of that number is at these statements, of which the first runs now
  statements_at : ℕ → List Statement → Serial → Visit
  -- the end tag of that script was met
  tag_at : NodeId → Serial → Visit

-- where a part of the parse goes on, its state
abbrev pub Behind : Course → (Serial → Type 0) → Type 0
Behind (goes s) Holds = Holds s
Behind _ Holds = Unit {0}

-- `P` holds at each of them, in each part of the evaluator (`serial`), with that fuel: call by call as it does
unfoldable mutual
  pub InText : (Visit → Type 0) → ℕ → World → Option (List Statement) → Serial → Type 0
  InText P zero w text s = Unit {0}
  InText P (suc n) w None s = Unit {0}
  InText P (suc n) w (Some list) s = InStatements P n w (suc s.side.executed) list (one_more_executed s)

  pub InStatements : (Visit → Type 0) → ℕ → World → ℕ → List Statement → Serial → Type 0
  InStatements P zero w k list s = Unit {0}
  InStatements P (suc n) w k [] s = P (statements_at k [] s)
  InStatements P (suc n) w k (statement.Write t ∷ list) s =
      P (statements_at k (statement.Write t ∷ list) s) × (InWrite P n w (may_write t s) t s × Behind (write n w (may_write t s) t s) (λ s'. InStatements P n w k list s'))
  InStatements P (suc n) w k (statement.WriteLine t ∷ list) s =
      P (statements_at k (statement.WriteLine t ∷ list) s) × (InWrite P n w (may_write (with_line_feed t) s) (with_line_feed t) s
      × Behind (write n w (may_write (with_line_feed t) s) (with_line_feed t) s) (λ s'. InStatements P n w k list s'))
  InStatements P (suc n) w k (statement.Remove v ∷ list) s =
      P (statements_at k (statement.Remove v ∷ list) s) × InElement P n w k list remove (find_id (tree_of s) v) s
  InStatements P (suc n) w k (statement.Append v c ∷ list) s =
      P (statements_at k (statement.Append v c ∷ list) s) × InMove P n w k list (appended (tree_of s) (find_id (tree_of s) v) (find_id (tree_of s) c)) s
  InStatements P (suc n) w k (statement.SetInner v t ∷ list) s =
      P (statements_at k (statement.SetInner v t ∷ list) s) × InSet P n w k list (inner_set w.entities s.parser.open_state.quirks (tree_of s) (find_id (tree_of s) v) t) s
  InStatements P (suc n) w k (statement.LogById v ∷ list) s =
      P (statements_at k (statement.LogById v ∷ list) s) × InElement P n w k list (read k) (find_id (tree_of s) v) s
  InStatements P (suc n) w k (statement.LogRoot ∷ list) s =
      P (statements_at k (statement.LogRoot ∷ list) s) × InElement P n w k list (read k) (first_element (tree_of s)) s

  pub InElement : (Visit → Type 0) → ℕ → World → ℕ → List Statement → (ℕ → Serial → Serial) → Option ℕ → Serial → Type 0
  InElement P zero w k list work found s = Unit {0}
  InElement P (suc n) w k list work None s = Unit {0}
  InElement P (suc n) w k list work (Some e) s = InStatements P n w k list (work e s)

  pub InMove : (Visit → Type 0) → ℕ → World → ℕ → List Statement → Option Nodes → Serial → Type 0
  InMove P zero w k list t s = Unit {0}
  InMove P (suc n) w k list None s = Unit {0}
  InMove P (suc n) w k list (Some t) s = InStatements P n w k list (with_tree t s)

  pub InSet : (Visit → Type 0) → ℕ → World → ℕ → List Statement → Setting → Serial → Type 0
  InSet P zero w k list t s = Unit {0}
  InSet P (suc n) w k list lacking s = Unit {0}
  InSet P (suc n) w k list too_deep s = Unit {0}
  InSet P (suc n) w k list (setting t) s = InStatements P n w k list (with_tree t s)

  pub InWrite : (Visit → Type 0) → ℕ → World → Bool → List ℕ → Serial → Type 0
  InWrite P zero w fits t s = Unit {0}
  InWrite P (suc n) w false t s = Unit {0}
  InWrite P (suc n) w true t s = InParse P n w s.side.pending (insert t s)

  pub InParse : (Visit → Type 0) → ℕ → World → Option (List ℕ) → Serial → Type 0
  InParse P zero w pending s = Unit {0}
  InParse P (suc n) w None s = InStop P n w s (advance w.entities s.parser s.side.doc (before_point s))
  InParse P (suc n) w (Some name) s = Unit {0}

  pub InStop : (Visit → Type 0) → ℕ → World → Serial → Advanced → Type 0
  InStop P zero w s a = Unit {0}
  InStop P (suc n) w s (advanced p d rest stop.InputEnd) = Unit {0}
  InStop P (suc n) w s (advanced p d rest (stop.Script i)) =
      InTag P n w i (moved p d rest s) × Behind (end_of_script n w i (moved p d rest s)) (λ t. InParse P n w t.side.pending t)
  InStop P (suc n) w s (advanced p d rest stop.Deep) = Unit {0}

  pub InTag : (Visit → Type 0) → ℕ → World → NodeId → Serial → Type 0
  InTag P zero w i s = Unit {0}
  InTag P (suc n) w i s = P (tag_at i s) × InPrepared P n w (prepared i s) (inside s)

  pub InPrepared : (Visit → Type 0) → ℕ → World → Prepared → Serial → Type 0
  InPrepared P zero w k s = Unit {0}
  InPrepared P (suc n) w still s = Unit {0}
  InPrepared P (suc n) w (inline t) s = InText P n w (statements t) s
  InPrepared P (suc n) w (external name) s = Unit {0}

-- a script that was awaited
abbrev pub InFile : (Visit → Type 0) → ℕ → World → Fetched → Serial → Type 0
InFile P n w (got bytes) s = InText P n w (file_statements bytes) (inside s)
InFile P n w missing s = Unit {0}
InFile P n w faulted s = Unit {0}

-- the script that runs behind a moment
abbrev pub InMoment : (Visit → Type 0) → ℕ → World → Moment → Type 0
InMoment P n w (reading s) = Unit {0}
InMoment P n w (tag_ended i s) = InTag P n w i s
InMoment P n w (awaits name s) = InFile P n w (fetched w name) s
InMoment P n w (over o) = Unit {0}

-- in the whole parse of the page, with whatever fuel
abbrev pub AtEach : (Visit → Type 0) → Page → World → Type 0
AtEach P page w = (m : Moment) → Passes page w m → (n : ℕ) → InMoment P n w m
