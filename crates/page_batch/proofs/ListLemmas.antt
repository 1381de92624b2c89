-- A list, window by window.
use Rattle.std.proofs.Common.{◌≡◌, ℕ, List, [], ◌∷◌, ◌++◌, length, take, drop, take-append-drop, append_assoc, append-nil, Option, refl, sym, ap, subst, ◌∙◌, arith}
use Rattle.standard.specs.Entities.{Entities}
use Rattle.outside.specs.Outside.{Seen}
use Rattle.page_turns.specs.Scripts.{Met}
use Rattle.page_batch.specs.Windows.{RunsWindow, StopsInWindow}
use Rattle.page_batch.specs.Batches.{GivesAll, GivesInPart}
use Rattle.page_batch.proofs.WindowLemmas.{window-then, stops-then, gives-all, gives-unfinished, gives-in-part}

-- the front of the rest is done
pub list-more : (paths done rest behind : List (List ℕ)) (n : ℕ) → paths ≡ done ++ rest → behind ≡ drop n rest → paths ≡ (done ++ take n rest) ++ behind
list-more paths done rest behind n is next =
    is ∙ (ap (λ l. done ++ l) (sym (take-append-drop n rest)) ∙ (sym (append_assoc done (take n rest) (drop n rest)) ∙ ap (λ l. (done ++ take n rest) ++ l) (sym next)))

none-left : (done rest : List (List ℕ)) → length rest ≡ 0 → done ++ rest ≡ done
none-left done [] none = append-nil done
none-left done (path ∷ rest) none = absurd (omega (arith, none))

module _ (es es' : Entities) (same : es' ≡ es) (dir : List ℕ) (paths done rest : List (List ℕ)) (is : paths ≡ done ++ rest) (before now : Seen) (met : Met) (t u : Option (List ℕ)) (h : RunsWindow es dir done before now [] met t u) where
  -- it stopped in the next window
  pub list-cut : (after : Seen) (met' : Met) (v : Option (List ℕ)) → StopsInWindow es dir rest now after met met' u v → GivesInPart es' dir paths before after t v
  list-cut after met' v stops =
      subst (λ e. GivesInPart e dir paths before after t v) (sym same)
      (gives-in-part es dir before after met' t v paths (subst (λ l. StopsInWindow es dir l before after [] met' t v) (sym is) (stops-then es dir done rest before now after [] met met' t u v h stops)))

  whole : length rest ≡ 0 → RunsWindow es dir paths before now [] met t u
  whole none = subst (λ l. RunsWindow es dir l before now [] met t u) (sym (is ∙ none-left done rest none)) h

  -- and all windows were run
  pub list-all : length rest ≡ 0 → (v : Option (List ℕ)) → v ≡ u → GivesAll es' dir paths before now t v
  list-all none v taken =
      subst (λ x. GivesAll es' dir paths before now t x) (sym taken) (subst (λ e. GivesAll e dir paths before now t u) (sym same) (gives-all es dir before now met t u paths (whole none)))

  pub list-unfinished : length rest ≡ 0 → (v : Option (List ℕ)) → v ≡ u → GivesInPart es' dir paths before now t v
  list-unfinished none v taken =
      subst (λ x. GivesInPart es' dir paths before now t x) (sym taken) (subst (λ e. GivesInPart e dir paths before now t u) (sym same) (gives-unfinished es dir before now met t u paths (whole none)))
