-- "Any other end tag" in foreign content (13.2.6.5 #parsing-main-inforeign), as a search and then
-- the popping.
use Rattle.std.specs.Prelude.{ℕ, if◌then◌else◌, List, [], ◌∷◌, Option, None, Some}
use Rattle.html_types.specs.Names.{name_text}
use Rattle.html_types.specs.declared.open.OpenElement.{OpenElement}
use Rattle.standard.specs.ForeignNames.{is_lower_of}
use Rattle.standard.specs.Foreign.{is_html}
use Rattle.builder_state.specs.declared.foreign_end.End.{End}
use Rattle.builder_state.specs.declared.foreign_end.End.TheVariants.{Nothing, Here, ByMode}

-- what the search from the current node up meets first
abbrev pub end_found : List ℕ → List OpenElement → End
end_found name [] = Nothing
end_found name (e ∷ []) = Nothing
end_found name (e ∷ d ∷ es) =
    if is_lower_of (name_text e.name) name then Here else (if is_html d.name then ByMode else end_found name (d ∷ es))

-- popped until an element of that name is popped
abbrev pub through : List ℕ → List OpenElement → List OpenElement
through name [] = []
through name (e ∷ es) = if is_lower_of (name_text e.name) name then es else through name es

-- the stack that the end tag leaves, where the mode's rules aren't asked
abbrev pub stack_after : End → List OpenElement → List OpenElement → Option (List OpenElement)
stack_after Nothing all left = Some all
stack_after Here all left = Some left
stack_after ByMode all left = None
