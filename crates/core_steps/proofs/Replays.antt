-- The journal's events, one behind another.
use Rattle.std.proofs.Common.{◌≡◌, ℕ, Bool, true, false, true≢false, List, [], ◌∷◌, ◌++◌, Option, Some, None, refl, sym, ◌∙◌, ap, subst, IsTrue}
use Rattle.std.specs.Prelude.{not, ◌||◌, if◌then◌else◌}
use Rattle.html_types.specs.Text.{same_text}
use Rattle.html_types.specs.declared.ending.Ending.{Ending}
use Rattle.standard.specs.Entities.{Entities}
use Rattle.serial.specs.Scripts.{Fetched, missing, is_lawful}
use Rattle.serial.specs.Serial.{World, fetched, fetched_if}
use Rattle.core_definitions.specs.declared.event.Event.{Event}
use Rattle.core_definitions.specs.Batches.{Piece, of_text, of_ending}
use Rattle.core_definitions.specs.Desk.{Desk, first_desk, pieces_with, with_more, Moves, MovesBy, is_among, has_arrived}
use Rattle.core_definitions.specs.Journal.{Knows}
use Rattle.core_laws.proofs.Handing.{more-may_follow}

-- an event more
pub moves-then : (ahead : ℕ) (w : World) (vs : List Event) (v : Event) (a b c : Desk) → MovesBy ahead w vs a b → Moves ahead w v b c → MovesBy ahead w (vs ++ v ∷ []) a c
moves-then ahead w [] v a b c is step = (c, subst (λ d. Moves ahead w v d c) is step, refl)
moves-then ahead w (u ∷ us) v a b c (d, first, rest) step = (d, first, moves-then ahead w us v d b c rest step)

-- ---- what is handed in

pub pieces-then : (ts : List (List ℕ)) (t : List ℕ) → pieces_with (ts ++ t ∷ []) None ≡ pieces_with ts None ++ of_text t ∷ []
pieces-then [] t = refl
pieces-then (u ∷ us) t = ap (λ ps. of_text u ∷ ps) (pieces-then us t)

pub ending-then : (ts : List (List ℕ)) (e : Ending) → pieces_with ts (Some e) ≡ pieces_with ts None ++ of_ending e ∷ []
ending-then [] e = refl
ending-then (u ∷ us) e = ap (λ ps. of_text u ∷ ps) (ending-then us e)

-- the same events lead on from more pieces
pub moves-more : (ahead : ℕ) (w : World) (vs : List Event) (ps qs : List Piece) (x : Piece) (d : Desk) → qs ≡ ps ++ x ∷ [] →
    MovesBy ahead w vs (first_desk ps) d → MovesBy ahead w vs (first_desk qs) (with_more (x ∷ []) d)
moves-more ahead w vs ps qs x d is moves =
    subst (λ rs. MovesBy ahead w vs (first_desk rs) (with_more (x ∷ []) d)) (sym is) (more-may_follow ahead w vs (x ∷ []) (first_desk ps) d moves)
