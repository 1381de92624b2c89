-- A relation between states that every part of the evaluator keeps holds from a script's beginning to its end.
use Rattle.std.proofs.Common.{◌≡◌, ℕ, zero, suc, ◌+◌, ◌≤◌, Bool, true, false, List, [], ◌∷◌, ◌++◌, Option, Some, None, refl, length, nat_le, sym, ◌∙◌, append_assoc, append-nil}
use Rattle.std.specs.Prelude.{⊤}
use Rattle.std.proofs.lemmas.Bool.{leb-true}
use Rattle.html_types.specs.declared.operation.NodeId.{NodeId}
use Rattle.serial.specs.declared.script.Statement.{Statement}
use Rattle.serial.specs.declared.script.Statement.TheVariants as statement
use Rattle.serial.specs.declared.script.Line.{Line}
use Rattle.html_types.specs.declared.instruction.Stop.{Stop}
use Rattle.html_types.specs.declared.instruction.Stop.TheVariants as stop
use Rattle.standard.specs.Fragment.{Setting, lacking, too_deep, setting, inner_set}
use Rattle.standard.specs.Entities.{Entities}
use Rattle.standard.specs.Tree.{Nodes, detached, appended, find_id, first_element}
use Rattle.standard.specs.Act.{Doc}
use Rattle.serial.specs.Statements.{statements}
use Rattle.standard.specs.Prepare.{Prepared, still, inline, external}
use Rattle.standard.specs.Parser.{Parser}
use Rattle.act_laws.specs.Staying.{Stays}
use Rattle.act_laws.proofs.Staying.{Stays-detached, Stays-appended, Stays-inner_set}
use Rattle.serial.specs.Serial.{World, Serial, Course, goes, refuses, starved, ◌then◌, Advanced, advanced, advance, before_point, moved, tree_of, inside, back_at, with_line_feed, insert, awaiting, with_tree, remove, with_line, read, one_more_executed, prepared, write_limit, execute, run_statements, on_element, on_move, write, go_on, stopped, end_of_script, run_prepared, run_text, on_set}

pub record Steps (R : Serial → Serial → Type 0) : Type 0 where
  pub same : (s : Serial) → R s s
  pub join : (s t u : Serial) → R s t → R t u → R s u
  pub line : (l : Line) (s : Serial) → R s (with_line l s)
  pub counted : (s : Serial) → R s (one_more_executed s)
  pub inserted : (t : List ℕ) (s : Serial) → s.side.written + length t ≤ write_limit → R s (insert t s)
  pub changed : (t : Nodes) (s : Serial) → Stays (tree_of s) t → R s (with_tree t s)
  pub awaits : (name : List ℕ) (s : Serial) → R s (awaiting (Some name) s)
  pub parsed : (s : Serial) (p : Parser) (d : Doc) (rest : List ℕ) (k : Stop) (es : Entities) → advance es s.parser s.side.doc (before_point s) ≡ advanced p d rest k → R s (moved p d rest s)
  pub script : (s t : Serial) → R (inside s) t → R s (back_at s t)
  pub enters : (s : Serial) → R s (inside s)

-- it holds of the state that is reached, also by a refusal
abbrev pub Kept : (Serial → Serial → Type 0) → Serial → Course → Type 0
Kept R s starved = ⊤
Kept R s (goes t) = R s t
Kept R s (refuses w t) = R s t

module _ (R : Serial → Serial → Type 0) (r : Steps R) where
  Kept-from : (s t : Serial) (f : Course) → R s t → Kept R t f → Kept R s f
  Kept-from s t starved a k = tt
  Kept-from s t (goes u) a k = r.join s t u a k
  Kept-from s t (refuses w u) a k = r.join s t u a k

  Kept-then : (s : Serial) (f : Course) (h : Serial → Course) → Kept R s f → ((t : Serial) → R s t → Kept R s (h t)) → Kept R s (f then h)
  Kept-then s starved h k each = tt
  Kept-then s (goes t) h k each = each t k
  Kept-then s (refuses w t) h k each = k

  Kept-script : (s : Serial) (f : Course) → Kept R (inside s) f → Kept R s (f then λ t. goes (back_at s t))
  Kept-script s starved k = tt
  Kept-script s (goes t) k = r.script s t k
  Kept-script s (refuses w u) k = r.join s (inside s) u (r.enters s) k

  mutual
    unfolding execute

    pub execute-kept : (n : ℕ) (w : World) (text : Option (List Statement)) (s : Serial) → Kept R s (execute n w text s)
    execute-kept zero w text s = tt
    execute-kept (suc n) w None s = r.join s (one_more_executed s) _ (r.counted s) (r.line _ (one_more_executed s))
    execute-kept (suc n) w (Some list) s =
        Kept-from s (one_more_executed s) _ (r.counted s) (run_statements-kept n w (suc s.side.executed) list (one_more_executed s))

    pub run_statements-kept : (n : ℕ) (w : World) (k : ℕ) (list : List Statement) (s : Serial) → Kept R s (run_statements n w k list s)
    run_statements-kept zero w k list s = tt
    run_statements-kept (suc n) w k [] s = r.same s
    run_statements-kept (suc n) w k (statement.Write t ∷ list) s =
        Kept-then s _ _ (write-kept n w _ t s refl) (λ s' a. Kept-from s s' _ a (run_statements-kept n w k list s'))
    run_statements-kept (suc n) w k (statement.WriteLine t ∷ list) s =
        Kept-then s _ _ (write-kept n w _ (with_line_feed t) s refl) (λ s' a. Kept-from s s' _ a (run_statements-kept n w k list s'))
    run_statements-kept (suc n) w k (statement.Remove v ∷ list) s =
        on_element-kept n w k list remove (find_id (tree_of s) v) s (λ e. r.changed (detached (tree_of s) e) s (Stays-detached (tree_of s) e))
    run_statements-kept (suc n) w k (statement.Append v c ∷ list) s =
        on_move-kept n w k list (appended (tree_of s) (find_id (tree_of s) v) (find_id (tree_of s) c)) s (Stays-appended (tree_of s) (find_id (tree_of s) v) (find_id (tree_of s) c))
    run_statements-kept (suc n) w k (statement.SetInner v t ∷ list) s =
        on_set-kept n w k list (inner_set w.entities s.parser.open_state.quirks (tree_of s) (find_id (tree_of s) v) t) s
        (Stays-inner_set w.entities s.parser.open_state.quirks (tree_of s) (find_id (tree_of s) v) t)
    run_statements-kept (suc n) w k (statement.LogById v ∷ list) s = on_element-kept n w k list (read k) (find_id (tree_of s) v) s (λ e. r.line _ s)
    run_statements-kept (suc n) w k (statement.LogRoot ∷ list) s = on_element-kept n w k list (read k) (first_element (tree_of s)) s (λ e. r.line _ s)

    on_element-kept : (n : ℕ) (w : World) (k : ℕ) (list : List Statement) (work : ℕ → Serial → Serial) (found : Option ℕ) (s : Serial) →
        ((e : ℕ) → R s (work e s)) → Kept R s (on_element n w k list work found s)
    on_element-kept zero w k list work found s each = tt
    on_element-kept (suc n) w k list work None s each = r.line _ s
    on_element-kept (suc n) w k list work (Some e) s each = Kept-from s (work e s) _ (each e) (run_statements-kept n w k list (work e s))

    on_move-kept : (n : ℕ) (w : World) (k : ℕ) (list : List Statement) (left : Option Nodes) (s : Serial) →
        ((t : Nodes) → left ≡ Some t → Stays (tree_of s) t) → Kept R s (on_move n w k list left s)
    on_move-kept zero w k list left s stays = tt
    on_move-kept (suc n) w k list None s stays = r.line _ s
    on_move-kept (suc n) w k list (Some t) s stays = Kept-from s (with_tree t s) _ (r.changed t s (stays t refl)) (run_statements-kept n w k list (with_tree t s))

    on_set-kept : (n : ℕ) (w : World) (k : ℕ) (list : List Statement) (there : Setting) (s : Serial) →
        ((t : Nodes) → there ≡ setting t → Stays (tree_of s) t) → Kept R s (on_set n w k list there s)
    on_set-kept zero w k list there s stays = tt
    on_set-kept (suc n) w k list lacking s stays = r.line _ s
    on_set-kept (suc n) w k list too_deep s stays = r.same s
    on_set-kept (suc n) w k list (setting t) s stays = Kept-from s (with_tree t s) _ (r.changed t s (stays t refl)) (run_statements-kept n w k list (with_tree t s))

    write-kept : (n : ℕ) (w : World) (fits : Bool) (t : List ℕ) (s : Serial) → nat_le (s.side.written + length t) write_limit ≡ fits → Kept R s (write n w fits t s)
    write-kept zero w fits t s q = tt
    write-kept (suc n) w false t s q = r.same s
    write-kept (suc n) w true t s q = Kept-from s (insert t s) _ (r.inserted t s (leb-true _ _ q)) (go_on-kept n w s.side.pending (insert t s))

    go_on-kept : (n : ℕ) (w : World) (pending : Option (List ℕ)) (s : Serial) → Kept R s (go_on n w pending s)
    go_on-kept zero w pending s = tt
    go_on-kept (suc n) w None s = stopped-kept n w s (advance w.entities s.parser s.side.doc (before_point s)) refl
    go_on-kept (suc n) w (Some name) s = r.same s

    stopped-kept : (n : ℕ) (w : World) (s : Serial) (a : Advanced) → advance w.entities s.parser s.side.doc (before_point s) ≡ a → Kept R s (stopped n w s a)
    stopped-kept zero w s a q = tt
    stopped-kept (suc n) w s (advanced p d rest stop.InputEnd) q = r.parsed s p d rest _ _ q
    stopped-kept (suc n) w s (advanced p d rest (stop.Script i)) q =
        Kept-from s (moved p d rest s) _ (r.parsed s p d rest _ _ q)
        (Kept-then (moved p d rest s) _ _ (end_of_script-kept n w i (moved p d rest s)) (λ t a. Kept-from (moved p d rest s) t _ a (go_on-kept n w t.side.pending t)))
    stopped-kept (suc n) w s (advanced p d rest stop.Deep) q = r.parsed s p d rest _ _ q

    pub end_of_script-kept : (n : ℕ) (w : World) (i : NodeId) (s : Serial) → Kept R s (end_of_script n w i s)
    end_of_script-kept zero w i s = tt
    end_of_script-kept (suc n) w i s = Kept-script s _ (run_prepared-kept n w (prepared i s) (inside s))

    run_prepared-kept : (n : ℕ) (w : World) (k : Prepared) (s : Serial) → Kept R s (run_prepared n w k s)
    run_prepared-kept zero w k s = tt
    run_prepared-kept (suc n) w still s = r.same s
    run_prepared-kept (suc n) w (inline t) s = execute-kept n w (statements t) s
    run_prepared-kept (suc n) w (external name) s = r.awaits name s

  pub run_text-kept : (n : ℕ) (w : World) (text : Option (List Statement)) (s : Serial) → Kept R s (run_text n w text s)
  run_text-kept n w text s = Kept-script s _ (execute-kept n w text (inside s))

-- the lines only grow
abbrev pub Grows : Serial → Serial → Type 0
Grows s t = (more : List Line) × (t.side.lines ≡ s.side.lines ++ more)

pub Grows-steps : Steps Grows
Grows-steps = record {
  same = λ s. ([], sym (append-nil _));
  join = λ s t u (a, p) (b, q). (a ++ b, q ∙ rw (p, append_assoc s.side.lines a b));
  line = λ l s. (l ∷ [], refl);
  counted = λ s. ([], sym (append-nil _));
  inserted = λ t s h. ([], sym (append-nil _));
  changed = λ t s stays. ([], sym (append-nil _));
  awaits = λ name s. ([], sym (append-nil _));
  parsed = λ s p d rest k es q. ([], sym (append-nil _));
  script = λ s t h. h;
  enters = λ s. ([], sym (append-nil _));
}
