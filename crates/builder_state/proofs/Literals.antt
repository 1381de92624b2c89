-- The characters of the names that the code writes out.
use Rattle.std.proofs.Common.{◌≡◌, refl}
use Rattle.std.specs.Prelude.{codes}
use Rattle.std.specs.Str.{chars}

pub type_text : chars (codes "type") ≡ codes "type"
unfolding chars
type_text = refl
