-- The search and the popping come to what the definition says.
use Rattle.std.proofs.Common.{◌≡◌, refl, ℕ, Bool, true, false, List, [], ◌∷◌}
use Rattle.std.specs.Prelude.{if◌then◌else◌, Option, None, Some}
use Rattle.html_types.specs.Names.{name_text}
use Rattle.html_types.specs.declared.open.OpenElement.{OpenElement}
use Rattle.standard.specs.ForeignNames.{is_lower_of}
use Rattle.standard.specs.Foreign.{is_html}
use Rattle.standard.specs.Instructions.{foreign_end}
use Rattle.builder_state.specs.declared.foreign_end.End.{End}
use Rattle.builder_state.specs.declared.foreign_end.End.TheVariants.{Here, ByMode}
use Rattle.builder_state.specs.ForeignEnds.{end_found, through, stack_after}

one_more : (here html : Bool) (all left right : List OpenElement) (found : End) (r : Option (List OpenElement)) → r ≡ stack_after found all right
    → (if here then Some left else (if html then None else r)) ≡ stack_after (if here then Here else (if html then ByMode else found)) all (if here then left else right)
one_more true html all left right found r e = refl
one_more false true all left right found r e = refl
one_more false false all left right found r e = e

pub foreign_end_found : (name : List ℕ) (all es : List OpenElement) → foreign_end name all es ≡ stack_after (end_found name es) all (through name es)
foreign_end_found name all [] = refl
foreign_end_found name all (e ∷ []) = refl
foreign_end_found name all (e ∷ d ∷ es) =
    one_more (is_lower_of (name_text e.name) name) (is_html d.name) all (d ∷ es) (through name (d ∷ es)) (end_found name (d ∷ es)) (foreign_end name all (d ∷ es))
    (foreign_end_found name all (d ∷ es))
