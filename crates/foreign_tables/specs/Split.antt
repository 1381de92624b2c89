-- Names that are looked up by their first letter.
use Rattle.std.specs.Prelude.{◌≡◌, ℕ, List, ◌∷◌}
use Rattle.standard.specs.ForeignNames.{respelled}

-- Among these a text that begins with the letter is found as it is among all.
abbrev pub FindsFrom : ℕ → (names all : List (List ℕ)) → Type 0
FindsFrom letter names all = (rest : List ℕ) → respelled names (letter ∷ rest) ≡ respelled all (letter ∷ rest)
