-- What is written with watchers' lines, and without.
use Rattle.std.proofs.Common.{◌≡◌, ℕ, suc, ◌+◌, add-one, Bool, List, [], ◌++◌, flat_map, Option, Some, None, refl, sym, ap, ◌∙◌, subst, append_assoc, append-nil}
use Rattle.standard.specs.Tree.{Nodes}
use Rattle.standard.specs.Outer.{document_text}
use Rattle.serial.specs.Output.{line_text, tree_lines, result_with, output_with}
use Rattle.serial.specs.Serial.{Result, finished, refused, Outcome}
use Rattle.html_types.specs.declared.ending.Why.{Why}
use Rattle.parse_machine.specs.declared.end.End.{End}
use Rattle.parse_machine.specs.declared.end.End.TheVariants as end
use Rattle.parse_machine.specs.Ends.{result_of}
use Rattle.page_turns.specs.Taken.{TookFront}
use Rattle.page_turns.specs.Watched.{watch_text}
use Rattle.page_turns.proofs.PageTakenLemmas.{front_longer}
use Rattle.page_runner.specs.Manner.{Manner, manner, watch_lines, result_in, output_in}

-- behind what is written without watchers their lines may stand
abbrev more_in : Manner → Result → Nodes → List ℕ
more_in how finished t = watch_lines how.watchers (document_text t)
more_in how (refused w) t = []

in-more : (how : Manner) (r : Result) (t : Nodes) → result_in how r t ≡ result_with how.dump r t ++ more_in how r t
in-more how finished t = refl
in-more how (refused w) t = sym (append-nil _)

-- a front of the one is one of the other
pub front_in : (how : Manner) (o : Outcome) (t t' : Option (List ℕ)) → TookFront t t' (output_with how.dump o) → TookFront t t' (output_in how o)
unfolding output_with output_in
front_in how o t t' front =
    let lines = flat_map line_text o.last.side.lines in
    let tree = o.last.side.doc.tree in
    subst (λ x. TookFront t t' x)
    (append_assoc lines (result_with how.dump o.result tree) (more_in how o.result tree) ∙ ap (λ x. lines ++ x) (sym (in-more how o.result tree)))
    (front_longer t t' (lines ++ result_with how.dump o.result tree) (more_in how o.result tree) front)

plain-result : (dump : Bool) (r : Result) (t : Nodes) → result_in (manner dump 0) r t ≡ result_with dump r t
plain-result dump finished t = append-nil (tree_lines dump t)
plain-result dump (refused w) t = refl

-- where nobody watches, what is written is the serial parse's output
pub plain-output : (dump : Bool) (o : Outcome) → output_in (manner dump 0) o ≡ output_with dump o
unfolding output_with output_in
plain-output dump o = ap (λ x. flat_map line_text o.last.side.lines ++ x) (plain-result dump o.result o.last.side.doc.tree)

-- one watcher's line more
pub one_line_more : (before now line text : List ℕ) (n : ℕ) → now ≡ before ++ watch_lines n text → line ≡ watch_text (suc n) text → now ++ line ≡ before ++ watch_lines (suc n) text
one_line_more before now line text n is line_is =
    ap (λ (x : List ℕ). x ++ line) is ∙ (append_assoc before (watch_lines n text) line ∙ ap (λ (x : List ℕ). before ++ (watch_lines n text ++ x)) line_is)

pub lines_more : (before now after text t : List ℕ) (n : ℕ) → now ≡ before ++ watch_lines n t → text ≡ t → after ≡ now ++ watch_text (n + 1) text → after ≡ before ++ watch_lines (n + 1) t
lines_more before now after text t n is same line =
    let next : after ≡ now ++ watch_text (n + 1) t = line ∙ ap (λ (x : List ℕ). now ++ watch_text (n + 1) x) same in
    subst (λ (k : ℕ). after ≡ now ++ watch_text k t → after ≡ before ++ watch_lines k t) (sym (add-one n)) (λ (e : after ≡ now ++ watch_text (suc n) t). e ∙ one_line_more before now (watch_text (suc n) t) t n is refl) next

-- the watchers' lines behind the tree
pub ended_with : (dump : Bool) (n : ℕ) (o : End) (t : Nodes) (before after : List ℕ) → o ≡ end.Finished → before ≡ result_with dump (result_of o) t → after ≡ before ++ watch_lines n (document_text t)
    → after ≡ result_in (manner dump n) (result_of o) t
ended_with dump n o t before after is first more =
    subst (λ (x : End). after ≡ result_in (manner dump n) (result_of x) t) (sym is)
    (more ∙ ap (λ (l : List ℕ). l ++ watch_lines n (document_text t)) (subst (λ (x : End). before ≡ result_with dump (result_of x) t) is first))

pub finished_with : (dump : Bool) (n : ℕ) (o : End) (t : Nodes) (text : List ℕ) → o ≡ end.Finished → text ≡ result_in (manner dump n) (result_of end.Finished) t → text ≡ result_in (manner dump n) (result_of o) t
finished_with dump n o t text is written = subst (λ (x : End). text ≡ result_in (manner dump n) (result_of x) t) (sym is) written

-- a refusal has none
pub refused_with : (dump : Bool) (n : ℕ) (o : End) (w : Why) (t : Nodes) (text : List ℕ) → o ≡ end.Refused w → text ≡ result_with dump (result_of o) t → text ≡ result_in (manner dump n) (result_of o) t
refused_with dump n o w t text is first =
    subst (λ (x : End). text ≡ result_in (manner dump n) (result_of x) t) (sym is) (subst (λ (x : End). text ≡ result_with dump (result_of x) t) is first)
