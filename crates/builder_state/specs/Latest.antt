-- The current node as the element of the latest entry of the list of active formatting elements.
use Rattle.std.specs.Prelude.{Bool, true, false, ◌&&◌, List, [], ◌∷◌}
use Rattle.html_types.specs.Operations.{same_id}
use Rattle.html_types.specs.declared.word.Word.{Word}
use Rattle.html_types.specs.declared.open.OpenElement.{OpenElement}
use Rattle.html_types.specs.declared.open.FormattingEntry.{FormattingEntry}
use Rattle.html_types.specs.declared.open.FormattingEntry.TheVariants.{Marker, Element}
use Rattle.standard.specs.Elements.{is_word}

-- the element is that of the latest entry, which has the name
abbrev pub is_latest : Word → OpenElement → List FormattingEntry → Bool
is_latest w e [] = false
is_latest w e (Marker ∷ fs) = false
is_latest w e (Element id tag ∷ fs) = same_id e.id id && is_word w tag.name

-- the current node is
abbrev pub current_is_latest : Word → List OpenElement → List FormattingEntry → Bool
current_is_latest w [] fs = false
current_is_latest w (e ∷ es) fs = is_latest w e fs
