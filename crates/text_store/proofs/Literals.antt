-- The characters of a text that the code writes out.
use Rattle.std.proofs.Common.{◌≡◌, [], refl}
use Rattle.std.specs.Prelude.{codes}
use Rattle.std.specs.Str.{chars}

pub no_text : chars (codes "") ≡ []
unfolding chars
no_text = refl
