-- A page's bytes that are cut into pieces.
use Rattle.std.proofs.Common.{◌≡◌, ◌≤◌, ◌+◌, ℕ, List, [], ◌∷◌, ◌++◌, length, take, drop, append_assoc, append-nil, take-append-drop, refl, sym, ap, ◌∙◌}
use Rattle.core_definitions.specs.Core.{joined}
use Rattle.serial.specs.Page.{text_of}

pub joined-more : (ts : List (List ℕ)) (t : List ℕ) → joined (ts ++ t ∷ []) ≡ joined ts ++ t
joined-more [] t = append-nil t
joined-more (u ∷ us) t = ap (λ x. u ++ x) (joined-more us t) ∙ sym (append_assoc u (joined us) t)

-- one piece more was read
pub read-more : (read rest piece behind bytes : List ℕ) → rest ≡ piece ++ behind → read ++ rest ≡ bytes → (read ++ piece) ++ behind ≡ bytes
read-more read rest piece behind bytes split all = append_assoc read piece behind ∙ (ap (λ x. read ++ x) (sym split) ∙ all)

pub text-more : (limit : ℕ) (ts ts' : List (List ℕ)) (t read piece : List ℕ) → ts' ≡ ts ++ t ∷ [] → joined ts ≡ text_of limit read → text_of limit (read ++ piece) ≡ text_of limit read ++ t → joined ts' ≡ text_of limit (read ++ piece)
text-more limit ts ts' t read piece more so_far fed = ap joined more ∙ (joined-more ts t ∙ (ap (λ x. x ++ t) so_far ∙ sym fed))
