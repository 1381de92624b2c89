-- What a pair holds before any event.
use Rattle.std.proofs.Common.{◌≡◌, ℕ, List, [], ◌∷◌, ◌++◌, append-nil, append_assoc, Some, None, refl, sym, ◌∙◌, ap}
use Rattle.html_types.specs.declared.ending.Ending.{Ending}
use Rattle.standard.specs.Entities.{Entities}
use Rattle.serial.specs.Scripts.{Fetched}
use Rattle.core_definitions.specs.declared.event.Event.{Event}
use Rattle.core_definitions.specs.Batches.{Piece, of_text, of_ending}
use Rattle.core_definitions.specs.Desk.{first_desk, pieces_with}
use Rattle.core_definitions.specs.Core.{Request, Reply, WorkSide, first_core, first_work}
use Rattle.core_steps.specs.Sides.{Shown, first_shown, with_piece, with_ending}
use Rattle.core_pair.specs.Pairs.{setup_from, first_paired, told_of, with_pieces}

-- so many more are to be sent, and those are the page's
abbrev with_parts : List Piece → List (List ℕ) → Shown → Shown
with_parts xs ts s = record s { desk = record s.desk { to_send = xs }; journal = record s.journal { pieces = ts } }

read-more : (ts : List (List ℕ)) (xs : List Piece) (us : List (List ℕ)) (s : Shown) → with_pieces ts (with_parts xs us s) ≡ with_parts (xs ++ pieces_with ts None) (us ++ ts) s
read-more [] xs us s = sym (ap (λ l. with_parts l (us ++ []) s) (append-nil xs) ∙ ap (λ l. with_parts xs l s) (append-nil us))
read-more (t ∷ ts) xs us s =
    read-more ts (xs ++ of_text t ∷ []) (us ++ t ∷ []) s
    ∙ (ap (λ l. with_parts l ((us ++ t ∷ []) ++ ts) s) (append_assoc xs (of_text t ∷ []) (pieces_with ts None))
    ∙ ap (λ l. with_parts (xs ++ of_text t ∷ pieces_with ts None) l s) (append_assoc us (t ∷ []) ts))

ending-last : (ts : List (List ℕ)) (e : Ending) → pieces_with ts None ++ of_ending e ∷ [] ≡ pieces_with ts (Some e)
ending-last [] e = refl
ending-last (t ∷ ts) e = ap (λ xs. of_text t ∷ xs) (ending-last ts e)

-- how the page ends isn't known from its pieces
pub ending-kept : (ts : List (List ℕ)) (s : Shown) → (with_pieces ts s).journal.ending ≡ s.journal.ending
ending-kept [] s = refl
ending-kept (t ∷ ts) s = ending-kept ts (with_piece t s)

module _ (es : Entities) (ahead : ℕ) (ts : List (List ℕ)) (e : Ending) (d : Shown) (ended : d ≡ with_ending e (with_pieces ts (first_shown es ahead))) where
  all-read : with_pieces ts (first_shown es ahead) ≡ with_parts (pieces_with ts None) ts (first_shown es ahead)
  all-read = read-more ts [] [] (first_shown es ahead)

  pub same-entities : d.entities ≡ es
  same-entities = ap (λ (s : Shown). s.entities) (ended ∙ ap (with_ending e) all-read)

  pub first-told : (files : List (List ℕ × Fetched)) (rs : List Request) (w : WorkSide) (bs : List Reply) (vs : List Event) → rs ≡ [] → w ≡ first_work → bs ≡ [] → vs ≡ [] → told_of d rs w bs files e vs ≡ first_paired es files ts e ahead
  first-told files rs w bs vs no_requests blank no_replies no_events =
      ap (λ (s : Shown). told_of s rs w bs files e vs) (ended ∙ ap (with_ending e) all-read)
      ∙ (ap (λ l. told_of whole l w bs files e vs) no_requests
      ∙ (ap (λ (z : WorkSide). told_of whole [] z bs files e vs) blank
      ∙ (ap (λ l. told_of whole [] first_work l files e vs) no_replies
      ∙ (ap (λ l. told_of whole [] first_work [] files e l) no_events
      ∙ ap (λ xs. record (first_paired es files ts e ahead) { core = record (first_core (setup_from es files ts e ahead)) { desk = first_desk xs } }) (ending-last ts e)))))
    where
      whole : Shown
      whole = with_ending e (with_parts (pieces_with ts None) ts (first_shown es ahead))
