-- Worked examples of the definitions.
use Rattle.std.proofs.Common.{◌≡◌, [], ◌∷◌, refl}
use Rattle.std.specs.Prelude.{codes}
use Rattle.html_types.specs.Names.{name_of}
use Rattle.html_types.specs.Operations.{spelled}
use Rattle.html_types.specs.declared.word.Word.TheVariants.{Blockquote}
use Rattle.html_types.specs.declared.name.Space.TheVariants.{Html}
use Rattle.html_types.specs.declared.name.Name.TheVariants.{Known, Other}
use Rattle.html_types.specs.declared.operation.Place.TheVariants.{Page}
use Rattle.html_types.specs.declared.operation.Op.TheVariants as op

known : name_of (codes "blockquote") ≡ Known Blockquote
known = refl

other : name_of (codes "blockquotes") ≡ Other Html (codes "blockquotes")
other = refl

letters : spelled (op.Text Page (97 ∷ 98 ∷ []) ∷ []) ≡ op.Text Page (97 ∷ []) ∷ op.Text Page (98 ∷ []) ∷ []
unfolding spelled
letters = refl
