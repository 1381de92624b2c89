-- What was published is the document after the first of its changes, as many as it counts.
use Rattle.std.proofs.Common.{◌≡◌, ◌+◌, ℕ, List, [], ◌∷◌, ◌++◌, length, fold, refl, sym, ap, ◌∙◌, subst, append_assoc, append-nil}
use Rattle.std.specs.Prelude.{Bool, true, false, map, take, flat_map}
use Rattle.std.proofs.Math.Seq.{take-append_seam}
use Rattle.std.proofs.lemmas.Grind.{flat_map-append}
use Rattle.std.proofs.lemmas.List.{length-append, length-map}
use Rattle.std.proofs.lemmas.List.Sums.{fold-append}
use Rattle.html_types.specs.declared.operation.Op.{Op}
use Rattle.standard.specs.Act.{Doc, new_doc, act, acts}
use Rattle.doc_changes.specs.declared.change.Change.{Change}
use Rattle.doc_changes.specs.declared.change.Change.TheVariants as change
use Rattle.doc_changes.specs.Changes.{changed, weight, single, singles, after, counted}
use Rattle.tree_watch.specs.declared.shown.Note.TheVariants.{Did}
use Rattle.tree_watch.specs.declared.shown.Stand.{Stand}
use Rattle.tree_watch.specs.Notes.{noted, start, mark}
use Rattle.tree_watch.specs.Boards.{begun}
use Rattle.tree_watch.specs.Counting.{IsAfter}

-- the operations of a batch, one by one
fold-batch : (d : Doc) (ops : List Op) → fold changed d (map (λ o. change.Did (o ∷ [])) ops) ≡ acts d ops
unfolding acts
fold-batch d [] = refl
fold-batch d (o ∷ os) = fold-batch (act d o) os

fold-single : (d : Doc) (c : Change) → fold changed d (single c) ≡ changed d c
fold-single d (change.Did ops) = fold-batch d ops
fold-single d (change.Removed node) = refl
fold-single d (change.Moved first second) = refl
fold-single d (change.Filled target fragment) = refl

pub fold-singles : (d : Doc) (cs : List Change) → fold changed d (singles cs) ≡ fold changed d cs
fold-singles d [] = refl
fold-singles d (c ∷ cs) =
    fold-append changed d (single c) (singles cs)
    ∙ (ap (λ (x : Doc). fold changed x (singles cs)) (fold-single d c) ∙ fold-singles (changed d c) cs)

length-single : (c : Change) → length (single c) ≡ weight c
length-single (change.Did ops) = length-map ops (λ o. change.Did (o ∷ []))
length-single (change.Removed node) = refl
length-single (change.Moved first second) = refl
length-single (change.Filled target fragment) = refl

pub counted-push : (cs : List Change) (c : Change) → counted (cs ++ c ∷ []) ≡ counted cs + weight c
counted-push cs c =
    ap length (flat_map-append single cs (c ∷ []))
    ∙ (length-append (singles cs) (singles (c ∷ []))
    ∙ ap (λ n. counted cs + n) (ap length (append-nil (single c)) ∙ length-single c))

after-one : (cs : List Change) (c : Change) (s : Stand) → IsAfter cs s → IsAfter (cs ++ c ∷ []) (noted s (Did c))
after-one cs c s is = record {
  doc = ap (λ (d : Doc). changed d c) is.doc ∙ sym (fold-append changed new_doc cs (c ∷ []));
  count = ap (λ n. n + weight c) is.count ∙ sym (counted-push cs c);
}

-- a published state, the changes that are noted then, and the state that is published behind them
pub after-notes : (cs ds : List Change) (s : Stand) → IsAfter cs s → IsAfter (cs ++ ds) (fold noted s (map Did ds))
after-notes cs [] s is = subst (λ (l : List Change). IsAfter l s) (sym (append-nil cs)) is
after-notes cs (d ∷ ds) s is =
    subst (λ (l : List Change). IsAfter l (fold noted (noted s (Did d)) (map Did ds))) (append_assoc cs (d ∷ []) ds)
    (after-notes (cs ++ d ∷ []) ds (noted s (Did d)) (after-one cs d s is))

-- the same with the mark, or without it
pub after-publishing : (cs ds : List Change) (last : Bool) (s : Stand) → IsAfter cs s → IsAfter (cs ++ ds) (fold noted s (map Did ds ++ mark last))
after-publishing cs ds last s is =
    subst (IsAfter (cs ++ ds)) (sym (fold-append noted s (map Did ds) (mark last))) (marked last (fold noted s (map Did ds)) (after-notes cs ds s is))
  where
    marked : (last : Bool) (x : Stand) → IsAfter (cs ++ ds) x → IsAfter (cs ++ ds) (fold noted x (mark last))
    marked false x is = is
    marked true x is = record { doc = is.doc; count = is.count }

pub after-none : IsAfter [] begun
after-none = record { doc = refl; count = refl }

-- what is published counts for the first changes of the whole run, whatever comes behind them
pub is-after : (cs more : List Change) (s : Stand) → IsAfter cs s → after (cs ++ more) s.changes ≡ s.doc
is-after cs more s is =
    ap (λ n. after (cs ++ more) n) is.count
    ∙ (ap (λ (l : List Change). fold changed new_doc (take (counted cs) l)) (flat_map-append single cs more)
    ∙ (ap (fold changed new_doc) (take-append_seam (singles cs) (singles more))
    ∙ (fold-singles new_doc cs ∙ sym is.doc)))
