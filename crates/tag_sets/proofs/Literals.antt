-- The characters of the names that the code writes out.
use Rattle.std.proofs.Common.{◌≡◌, refl}
use Rattle.std.specs.Prelude.{codes}
use Rattle.std.specs.Str.{chars}

pub mi_text : chars (codes "mi") ≡ codes "mi"
unfolding chars
mi_text = refl

pub mo_text : chars (codes "mo") ≡ codes "mo"
unfolding chars
mo_text = refl

pub mn_text : chars (codes "mn") ≡ codes "mn"
unfolding chars
mn_text = refl

pub ms_text : chars (codes "ms") ≡ codes "ms"
unfolding chars
ms_text = refl

pub mtext_text : chars (codes "mtext") ≡ codes "mtext"
unfolding chars
mtext_text = refl

pub foreign_object_text : chars (codes "foreignObject") ≡ codes "foreignObject"
unfolding chars
foreign_object_text = refl

pub desc_text : chars (codes "desc") ≡ codes "desc"
unfolding chars
desc_text = refl

pub title_text : chars (codes "title") ≡ codes "title"
unfolding chars
title_text = refl

pub annotation_text : chars (codes "annotation-xml") ≡ codes "annotation-xml"
unfolding chars
annotation_text = refl

pub encoding_text : chars (codes "encoding") ≡ codes "encoding"
unfolding chars
encoding_text = refl
