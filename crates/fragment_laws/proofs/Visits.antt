-- What every part of the evaluator keeps holds at each statement that it runs and at each end tag that it meets.
use Rattle.std.proofs.Common.{◌≡◌, refl, ℕ, zero, suc, Bool, true, false, List, [], ◌∷◌, Option, Some, None}
use Rattle.std.specs.Prelude.{⊤}
use Rattle.html_types.specs.declared.instruction.Stop.{Stop}
use Rattle.html_types.specs.declared.instruction.Stop.TheVariants as stop
use Rattle.html_types.specs.declared.operation.NodeId.{NodeId}
use Rattle.standard.specs.Entities.{Entities}
use Rattle.standard.specs.Tree.{Nodes, appended, find_id, first_element}
use Rattle.standard.specs.Act.{Doc}
use Rattle.standard.specs.Parser.{Parser}
use Rattle.standard.specs.Prepare.{Prepared, still, inline, external}
use Rattle.standard.specs.Fragment.{Setting, lacking, too_deep, setting, inner_set}
use Rattle.serial.specs.declared.script.Statement.{Statement}
use Rattle.serial.specs.declared.script.Statement.TheVariants as statement
use Rattle.serial.specs.declared.script.Line.{Line}
use Rattle.serial.specs.Statements.{statements}
use Rattle.serial.specs.Serial.{World, Serial, Course, goes, refuses, starved, ◌then◌, Advanced, advanced, advance, before_point, moved, tree_of, inside, back_at, with_line_feed, may_write, insert, awaiting, with_tree, remove, with_line, read, one_more_executed, prepared, execute, run_statements, on_element, on_move, on_set, write, go_on, stopped, end_of_script, run_prepared}
use Rattle.fragment_laws.specs.Visits.{Visit, statements_at, tag_at, Behind, InText, InStatements, InElement, InMove, InSet, InWrite, InParse, InStop, InTag, InPrepared}

-- what each part keeps, `T` being what is said of a script whose end tag was met
pub record Steps (I : Serial → Type 0) (T : NodeId → Serial → Type 0) : Type 0 where
  pub line : (l : Line) (s : Serial) → I s → I (with_line l s)
  pub counted : (s : Serial) → I s → I (one_more_executed s)
  pub inserted : (t : List ℕ) (s : Serial) → I s → I (insert t s)
  pub awaits : (name : List ℕ) (s : Serial) → I s → I (awaiting (Some name) s)
  pub enters : (s : Serial) → I s → I (inside s)
  pub leaves : (s t : Serial) → I t → I (back_at s t)
  pub removes : (v : List ℕ) (e : ℕ) (s : Serial) → find_id (tree_of s) v ≡ Some e → I s → I (remove e s)
  pub moves : (v c : List ℕ) (t : Nodes) (s : Serial) → appended (tree_of s) (find_id (tree_of s) v) (find_id (tree_of s) c) ≡ Some t → I s → I (with_tree t s)
  pub sets : (es : Entities) (quirks : Bool) (v text : List ℕ) (t : Nodes) (s : Serial) → inner_set es quirks (tree_of s) (find_id (tree_of s) v) text ≡ setting t → I s → I (with_tree t s)
  pub parses : (es : Entities) (s : Serial) (p : Parser) (d : Doc) (rest : List ℕ) (k : Stop) → advance es s.parser s.side.doc (before_point s) ≡ advanced p d rest k → I s → I (moved p d rest s)
  pub stops : (es : Entities) (s : Serial) (p : Parser) (d : Doc) (rest : List ℕ) (i : NodeId) → advance es s.parser s.side.doc (before_point s) ≡ advanced p d rest (stop.Script i) → I s → T i (moved p d rest s)

-- it holds of the state that is reached, also by a refusal
abbrev pub Held : (Serial → Type 0) → Course → Type 0
Held I starved = ⊤
Held I (goes t) = I t
Held I (refuses w t) = I t

module _ (I : Serial → Type 0) (T : NodeId → Serial → Type 0) (r : Steps I T) (P : Visit → Type 0) (here : (k : ℕ) (list : List Statement) (s : Serial) → I s → P (statements_at k list s))
    (tag : (i : NodeId) (s : Serial) → I s → T i s → P (tag_at i s)) where
  -- both: at each, and in the state that is reached
  abbrev Both : Type 0 → Course → Type 0
  Both A f = A × Held I f

  Held-then : (f : Course) (h : Serial → Course) → Held I f → ((t : Serial) → I t → Held I (h t)) → Held I (f then h)
  Held-then starved h k each = tt
  Held-then (goes t) h k each = each t k
  Held-then (refuses w t) h k each = k

  Behind-of : (f : Course) (Q : Serial → Type 0) → Held I f → ((t : Serial) → I t → Q t) → Behind f Q
  Behind-of starved Q k each = tt
  Behind-of (goes t) Q k each = each t k
  Behind-of (refuses w t) Q k each = tt

  -- one part, and then the next
  and-then : (A : Type 0) (f : Course) (Q : Serial → Type 0) (h : Serial → Course) → Both A f → ((t : Serial) → I t → Both (Q t) (h t)) → Both (A × Behind f Q) (f then h)
  and-then A f Q h b each = ((b.0, Behind-of f Q b.1 (λ t i. (each t i).0)), Held-then f h b.1 (λ t i. (each t i).1))

  mutual
    unfolding execute InText

    pub in-text : (n : ℕ) (w : World) (text : Option (List Statement)) (s : Serial) → I s → Both (InText P n w text s) (execute n w text s)
    in-text zero w text s i = (tt, tt)
    in-text (suc n) w None s i = (tt, r.line _ (one_more_executed s) (r.counted s i))
    in-text (suc n) w (Some list) s i = in-statements n w (suc s.side.executed) list (one_more_executed s) (r.counted s i)

    pub in-statements : (n : ℕ) (w : World) (k : ℕ) (list : List Statement) (s : Serial) → I s → Both (InStatements P n w k list s) (run_statements n w k list s)
    in-statements zero w k list s i = (tt, tt)
    in-statements (suc n) w k [] s i = (here k [] s i, i)
    in-statements (suc n) w k (statement.Write t ∷ list) s i =
        let x = and-then _ _ (λ s'. InStatements P n w k list s') (λ s'. run_statements n w k list s') (in-write n w (may_write t s) t s i) (λ s' i'. in-statements n w k list s' i') in
        ((here k _ s i, x.0), x.1)
    in-statements (suc n) w k (statement.WriteLine t ∷ list) s i =
        let x = and-then _ _ (λ s'. InStatements P n w k list s') (λ s'. run_statements n w k list s') (in-write n w (may_write (with_line_feed t) s) (with_line_feed t) s i) (λ s' i'. in-statements n w k list s' i') in
        ((here k _ s i, x.0), x.1)
    in-statements (suc n) w k (statement.Remove v ∷ list) s i =
        let x = in-element n w k list remove (find_id (tree_of s) v) s i (λ e found. r.removes v e s found i) in
        ((here k _ s i, x.0), x.1)
    in-statements (suc n) w k (statement.Append v c ∷ list) s i =
        let x = in-move n w k list (appended (tree_of s) (find_id (tree_of s) v) (find_id (tree_of s) c)) s i (λ t is. r.moves v c t s is i) in
        ((here k _ s i, x.0), x.1)
    in-statements (suc n) w k (statement.SetInner v t ∷ list) s i =
        let x = in-set n w k list (inner_set w.entities s.parser.open_state.quirks (tree_of s) (find_id (tree_of s) v) t) s i (λ u is. r.sets w.entities s.parser.open_state.quirks v t u s is i) in
        ((here k _ s i, x.0), x.1)
    in-statements (suc n) w k (statement.LogById v ∷ list) s i =
        let x = in-element n w k list (read k) (find_id (tree_of s) v) s i (λ e found. r.line _ s i) in
        ((here k _ s i, x.0), x.1)
    in-statements (suc n) w k (statement.LogRoot ∷ list) s i =
        let x = in-element n w k list (read k) (first_element (tree_of s)) s i (λ e found. r.line _ s i) in
        ((here k _ s i, x.0), x.1)

    in-element : (n : ℕ) (w : World) (k : ℕ) (list : List Statement) (work : ℕ → Serial → Serial) (found : Option ℕ) (s : Serial) → I s → ((e : ℕ) → found ≡ Some e → I (work e s))
        → Both (InElement P n w k list work found s) (on_element n w k list work found s)
    in-element zero w k list work found s i each = (tt, tt)
    in-element (suc n) w k list work None s i each = (tt, r.line _ s i)
    in-element (suc n) w k list work (Some e) s i each = in-statements n w k list (work e s) (each e refl)

    in-move : (n : ℕ) (w : World) (k : ℕ) (list : List Statement) (left : Option Nodes) (s : Serial) → I s → ((t : Nodes) → left ≡ Some t → I (with_tree t s))
        → Both (InMove P n w k list left s) (on_move n w k list left s)
    in-move zero w k list left s i each = (tt, tt)
    in-move (suc n) w k list None s i each = (tt, r.line _ s i)
    in-move (suc n) w k list (Some t) s i each = in-statements n w k list (with_tree t s) (each t refl)

    in-set : (n : ℕ) (w : World) (k : ℕ) (list : List Statement) (there : Setting) (s : Serial) → I s → ((t : Nodes) → there ≡ setting t → I (with_tree t s))
        → Both (InSet P n w k list there s) (on_set n w k list there s)
    in-set zero w k list there s i each = (tt, tt)
    in-set (suc n) w k list lacking s i each = (tt, r.line _ s i)
    in-set (suc n) w k list too_deep s i each = (tt, i)
    in-set (suc n) w k list (setting t) s i each = in-statements n w k list (with_tree t s) (each t refl)

    in-write : (n : ℕ) (w : World) (fits : Bool) (t : List ℕ) (s : Serial) → I s → Both (InWrite P n w fits t s) (write n w fits t s)
    in-write zero w fits t s i = (tt, tt)
    in-write (suc n) w false t s i = (tt, i)
    in-write (suc n) w true t s i = in-parse n w s.side.pending (insert t s) (r.inserted t s i)

    in-parse : (n : ℕ) (w : World) (pending : Option (List ℕ)) (s : Serial) → I s → Both (InParse P n w pending s) (go_on n w pending s)
    in-parse zero w pending s i = (tt, tt)
    in-parse (suc n) w None s i = in-stop n w s (advance w.entities s.parser s.side.doc (before_point s)) refl i
    in-parse (suc n) w (Some name) s i = (tt, i)

    in-stop : (n : ℕ) (w : World) (s : Serial) (a : Advanced) → advance w.entities s.parser s.side.doc (before_point s) ≡ a → I s → Both (InStop P n w s a) (stopped n w s a)
    in-stop zero w s a q i = (tt, tt)
    in-stop (suc n) w s (advanced p d rest stop.InputEnd) q i = (tt, r.parses w.entities s p d rest _ q i)
    in-stop (suc n) w s (advanced p d rest (stop.Script id)) q i =
        and-then _ _ (λ t. InParse P n w t.side.pending t) (λ t. go_on n w t.side.pending t)
        (in-tag n w id (moved p d rest s) (r.parses w.entities s p d rest _ q i) (r.stops w.entities s p d rest id q i)) (λ t i'. in-parse n w t.side.pending t i')
    in-stop (suc n) w s (advanced p d rest stop.Deep) q i = (tt, r.parses w.entities s p d rest _ q i)

    pub in-tag : (n : ℕ) (w : World) (id : NodeId) (s : Serial) → I s → T id s → Both (InTag P n w id s) (end_of_script n w id s)
    in-tag zero w id s i named = (tt, tt)
    in-tag (suc n) w id s i named =
        let x = in-prepared n w (prepared id s) (inside s) (r.enters s i) in
        ((tag id s i named, x.0), Held-then (run_prepared n w (prepared id s) (inside s)) (λ t. goes (back_at s t)) x.1 (λ t i'. r.leaves s t i'))

    in-prepared : (n : ℕ) (w : World) (k : Prepared) (s : Serial) → I s → Both (InPrepared P n w k s) (run_prepared n w k s)
    in-prepared zero w k s i = (tt, tt)
    in-prepared (suc n) w still s i = (tt, i)
    in-prepared (suc n) w (inline t) s i = in-text n w (statements t) s i
    in-prepared (suc n) w (external name) s i = (tt, r.awaits name s i)
