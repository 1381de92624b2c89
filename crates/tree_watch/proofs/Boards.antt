-- What keeps a board open.
use Rattle.std.proofs.Common.{◌≡◌, Bool, true, false, List, [], ◌∷◌, ◌++◌, fold, Result, Ok, Err, MatchResult, sym, ap, ◌∙◌, subst}
use Rattle.doc_changes.specs.declared.change.Change.{Change}
use Rattle.tree_watch.specs.declared.shown.Note.{Note}
use Rattle.tree_watch.specs.declared.shown.Note.TheVariants.{Opened, Did, Last}
use Rattle.tree_watch.specs.declared.shown.Stand.{Stand}
use Rattle.tree_watch.specs.Notes.{noted, AreChanges}
use Rattle.tree_watch.specs.Rule.{Log, latest}
use Rattle.tree_watch.specs.Boards.{IsOpen}
use Rattle.tree_watch.proofs.Rules.{unmarked-still}

pushed-changes : (notes : List Note) (c : Change) → AreChanges notes → AreChanges (notes ++ Did c ∷ [])
pushed-changes [] c are = tt
pushed-changes (Opened ∷ ns) c are = absurd are
pushed-changes (Did d ∷ ns) c are = pushed-changes ns c are
pushed-changes (Last ∷ ns) c are = absurd are

-- another board that says the same, but for what is noted
pub IsOpen-with : (l m : Bool) (x y : Stand) (p q : Log) (old new : List Note) (over : Bool) → m ≡ l → y ≡ x → q ≡ p
    → (over ≡ false → AreChanges new) → IsOpen l x p old over → IsOpen m y q new over
IsOpen-with l m x y p q old new over leads stand published changes is = record {
  alone = leads ∙ is.alone;
  stands = stand ∙ (is.stands ∙ ap latest (sym published));
  opened = ap (λ (s : Stand). s.opened) stand ∙ is.opened;
  unmarked = λ going. ap (λ (s : Stand). s.last) stand ∙ is.unmarked going;
  changes = changes;
}

-- one change more is noted
pub changes-noted : (old new : List Note) (c : Change) → AreChanges old → new ≡ old ++ Did c ∷ [] → AreChanges new
changes-noted old new c are is = subst AreChanges (sym is) (pushed-changes old c are)

-- the same, where it may have found no memory
pub changes-appended : {A E : Type 0} (r : Result A E) (old new : List Note) (c : Change) (Q : E → Type 0) → AreChanges old
    → MatchResult r (λ _. new ≡ old ++ Did c ∷ []) (λ x. Q x × (new ≡ old)) → AreChanges new
changes-appended (Ok a) old new c Q are is = changes-noted old new c are is
changes-appended (Err x) old new c Q are is = subst AreChanges (sym is.1) are

-- what was noted is published, without the mark
pub unmarked-then : (x y : Stand) (notes : List Note) → AreChanges notes → y ≡ fold noted x notes → x.last ≡ false → y.last ≡ false
unmarked-then x y notes are is unmarked = ap (λ (s : Stand). s.last) is ∙ (unmarked-still x notes are ∙ unmarked)

pub none-left : (notes : List Note) → notes ≡ [] → AreChanges notes
none-left notes none = subst AreChanges (sym none) tt
