-- The characters of the names that the code writes out.
use Rattle.std.proofs.Common.{◌≡◌, refl}
use Rattle.std.specs.Prelude.{codes}
use Rattle.std.specs.Str.{chars}

pub type_text : chars (codes "type") ≡ codes "type"
unfolding chars
type_text = refl

pub src_text : chars (codes "src") ≡ codes "src"
unfolding chars
src_text = refl

pub nomodule_text : chars (codes "nomodule") ≡ codes "nomodule"
unfolding chars
nomodule_text = refl

pub async_text : chars (codes "async") ≡ codes "async"
unfolding chars
async_text = refl

pub defer_text : chars (codes "defer") ≡ codes "defer"
unfolding chars
defer_text = refl

pub annotation_text : chars (codes "annotation-xml") ≡ codes "annotation-xml"
unfolding chars
annotation_text = refl

pub encoding_text : chars (codes "encoding") ≡ codes "encoding"
unfolding chars
encoding_text = refl
