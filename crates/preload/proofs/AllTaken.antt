-- What a fetcher took ends with the word to stop, which was put last: so it took all that was put.
use Rattle.std.proofs.Common.{◌≡◌, ℕ, Bool, true, false, true≢false, List, [], ◌∷◌, ◌++◌, map, refl, sym, ap, ◌∙◌}
use mathlib.Core.List.{IsPrefix}
use Rattle.preload.specs.declared.messages.Wanted.{Wanted}
use Rattle.preload.specs.declared.messages.Wanted.TheVariants.{Ask, Stop}

abbrev stops : List Wanted → Bool
stops [] = false
stops (Stop ∷ ws) = true
stops (Ask name ∷ ws) = false

abbrev first_name : List Wanted → List ℕ
first_name [] = []
first_name (Stop ∷ ws) = []
first_name (Ask name ∷ ws) = name

abbrev behind : List Wanted → List Wanted
behind [] = []
behind (w ∷ ws) = ws

all-of : (names ns : List (List ℕ)) (rest : List Wanted) → (map Ask names ++ Stop ∷ []) ++ rest ≡ map Ask ns ++ Stop ∷ [] → names ≡ ns
all-of [] [] rest is = refl
all-of [] (n ∷ ns) rest is = absurd (true≢false (ap stops is))
all-of (m ∷ ms) [] rest is = absurd (true≢false (sym (ap stops is)))
all-of (m ∷ ms) (n ∷ ns) rest is = ap (λ x. x ∷ ms) (ap first_name is) ∙ ap (λ xs. n ∷ xs) (all-of ms ns rest (ap behind is))

pub all-taken : (names ns : List (List ℕ)) (taken put : List Wanted) → IsPrefix taken put → taken ≡ map Ask names ++ Stop ∷ [] → put ≡ map Ask ns ++ Stop ∷ [] → names ≡ ns
all-taken names ns taken put (rest, is) took gave = all-of names ns rest (ap (λ ws. ws ++ rest) (sym took) ∙ (is ∙ gave))
