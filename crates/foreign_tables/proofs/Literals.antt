-- The characters of the names that the code writes out.
use Rattle.std.proofs.Common.{◌≡◌, refl}
use Rattle.std.specs.Prelude.{codes}
use Rattle.std.specs.Str.{chars}

pub color_text : chars (codes "color") ≡ codes "color"
unfolding chars
color_text = refl

pub face_text : chars (codes "face") ≡ codes "face"
unfolding chars
face_text = refl

pub size_text : chars (codes "size") ≡ codes "size"
unfolding chars
size_text = refl
