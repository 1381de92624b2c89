-- The characters of short texts.
use Rattle.std.proofs.Common.{◌≡◌, [], ◌∷◌, refl}
use Rattle.std.specs.Str.{chars}

-- `&`
pub mark : chars (38 ∷ []) ≡ 38 ∷ []
unfolding chars
mark = refl

-- `&#`
pub mark_and_hash : chars (38 ∷ 35 ∷ []) ≡ 38 ∷ 35 ∷ []
unfolding chars
mark_and_hash = refl
