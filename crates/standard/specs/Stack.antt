-- The stack of open elements (13.2.4.2 #the-stack-of-open-elements), as a list that begins with the
-- current node. It grows downwards, as in the standard: the html element is at the top, and the
-- current node, the first of the list, at the bottom.
use Rattle.std.specs.Prelude.{Bool, true, false, not, ◌&&◌, ◌||◌, if◌then◌else◌, List, [], ◌∷◌, ◌++◌, Option, Some, None}
use Rattle.html_types.specs.declared.word.Word.{Word}
use Rattle.html_types.specs.declared.word.Word.TheVariants as word
use Rattle.html_types.specs.declared.instruction.Group.TheVariants as group
use Rattle.html_types.specs.declared.instruction.Scope.{Scope}
use Rattle.html_types.specs.declared.name.Name.{Name}
use Rattle.html_types.specs.declared.operation.NodeId.{NodeId}
use Rattle.html_types.specs.declared.operation.Place.{Place}
use Rattle.html_types.specs.declared.operation.Place.TheVariants.{Page, Inside, Contents, Foster}
use Rattle.html_types.specs.Operations.{same_id}
use Rattle.html_types.specs.declared.open.OpenElement.{OpenElement}
use Rattle.standard.specs.Elements.{is_word, is_one_of, ends_scope}

abbrev pub in_scope : Scope → (Name → Bool) → List OpenElement → Bool
in_scope s is [] = false
in_scope s is (e ∷ es) = if is e.name then true else (if ends_scope s e.name then false else in_scope s is es)

abbrev pub on_stack : (Name → Bool) → List OpenElement → Bool
on_stack is [] = false
on_stack is (e ∷ es) = is e.name || on_stack is es

abbrev pub is_open : NodeId → List OpenElement → Bool
is_open id [] = false
is_open id (e ∷ es) = same_id e.id id || is_open id es

abbrev pub current_is : (Name → Bool) → List OpenElement → Bool
current_is is [] = false
current_is is (e ∷ es) = is e.name

-- the current node is an option, right below an optgroup
abbrev pub option_in_optgroup : List OpenElement → Bool
option_in_optgroup [] = false
option_in_optgroup (e ∷ []) = false
option_in_optgroup (e ∷ d ∷ es) = is_word word.Option e.name && is_word word.Optgroup d.name

abbrev pub current_id : List OpenElement → Option NodeId
current_id [] = None
current_id (e ∷ es) = Some e.id

abbrev pub is_empty : List OpenElement → Bool
is_empty [] = true
is_empty (e ∷ es) = false

abbrev pub pop : List OpenElement → List OpenElement
pop [] = []
pop (e ∷ es) = es

-- popped until one of these is popped
abbrev pub until : (Name → Bool) → List OpenElement → List OpenElement
until is [] = []
until is (e ∷ es) = if is e.name then es else until is es

-- popped while the current node is none of these
abbrev pub pop_to : (Name → Bool) → List OpenElement → List OpenElement
pop_to is [] = []
pop_to is (e ∷ es) = if is e.name then e ∷ es else pop_to is es

-- popped but for the topmost, the html element
abbrev pub pop_to_root : List OpenElement → List OpenElement
pop_to_root [] = []
pop_to_root (e ∷ []) = e ∷ []
pop_to_root (e ∷ d ∷ es) = pop_to_root (d ∷ es)

-- implied end tags, but for these
abbrev pub implied : (Name → Bool) → List OpenElement → List OpenElement
implied but [] = []
implied but (e ∷ es) = if is_one_of group.ClosedImplicitly e.name && not (but e.name) then implied but es else e ∷ es

-- all implied end tags, thoroughly
abbrev pub implied_thoroughly : List OpenElement → List OpenElement
implied_thoroughly [] = []
implied_thoroughly (e ∷ es) = if is_one_of group.ClosedThoroughly e.name then implied_thoroughly es else e ∷ es

abbrev pub close : Scope → (Name → Bool) → List OpenElement → List OpenElement
close s is es = if in_scope s is es then until is (implied is es) else es

-- an item is sought from the current node up, not past a special element but address, div and p
abbrev pub item_found : (Name → Bool) → List OpenElement → Bool
item_found is [] = false
item_found is (e ∷ es) =
    if is e.name then true
    else (if is_one_of group.Special e.name && not (is_one_of group.PassedItems e.name) then false else item_found is es)

abbrev pub close_item : (Name → Bool) → List OpenElement → List OpenElement
close_item is es = if item_found is es then until is (implied is es) else es

-- "any other end tag": up to the element of that name, where no special element comes first
abbrev pub end_found : (Name → Bool) → List OpenElement → Bool
end_found is [] = false
end_found is (e ∷ es) =
    if is e.name then true else (if is_one_of group.Special e.name then false else end_found is es)

abbrev pub other_end : (Name → Bool) → List OpenElement → List OpenElement
other_end is es = if end_found is es then until is (implied is es) else es

-- where foster parenting puts a node: the latest template or table decides, else the first element
abbrev pub id_or : NodeId → List OpenElement → NodeId
id_or id [] = id
id_or id (e ∷ es) = e.id

abbrev pub foster_place : List OpenElement → Place
foster_place [] = Page
foster_place (e ∷ es) =
    if is_word word.Template e.name then Contents e.id
    else (if is_word word.Table e.name then Foster e.id (id_or e.id es)
    else (if is_empty es then Inside e.id else foster_place es))

abbrev pub place_in : OpenElement → Place
place_in e = if is_word word.Template e.name then Contents e.id else Inside e.id

-- the appropriate place for inserting a node
abbrev pub place : Bool → List OpenElement → Place
place foster [] = Page
place foster (e ∷ es) = if foster && is_one_of group.FosterTargets e.name then foster_place (e ∷ es) else place_in e

-- the top of the stack, and the element right below it
abbrev pub first_open : List OpenElement → Option OpenElement
first_open [] = None
first_open (e ∷ []) = Some e
first_open (e ∷ d ∷ es) = first_open (d ∷ es)

abbrev pub second_open : List OpenElement → Option OpenElement
second_open [] = None
second_open (e ∷ []) = None
second_open (e ∷ d ∷ []) = Some e
second_open (e ∷ d ∷ c ∷ es) = second_open (d ∷ c ∷ es)

abbrev pub is_the : Word → Option OpenElement → Bool
is_the w None = false
is_the w (Some e) = is_word w e.name

-- the element of that id taken off, wherever it stands
abbrev pub without_open : Option NodeId → List OpenElement → List OpenElement
without_open None es = es
without_open (Some i) [] = []
without_open (Some i) (e ∷ es) = if same_id e.id i then es else e ∷ without_open (Some i) es

-- "has that element in scope"
abbrev pub open_in_scope : Scope → NodeId → List OpenElement → Bool
open_in_scope s id [] = false
open_in_scope s id (e ∷ es) = if same_id e.id id then true else (if ends_scope s e.name then false else open_in_scope s id es)

-- ---- what the adoption agency algorithm asks of the stack

-- the elements below the one of that id, and those from it on
abbrev pub below : NodeId → List OpenElement → List OpenElement
below id [] = []
below id (e ∷ es) = if same_id e.id id then [] else e ∷ below id es

abbrev pub from_on : NodeId → List OpenElement → List OpenElement
from_on id [] = []
from_on id (e ∷ es) = if same_id e.id id then e ∷ es else from_on id es

-- the elements through the one of that id, and those above it
abbrev pub through : NodeId → List OpenElement → List OpenElement
through id [] = []
through id (e ∷ es) = if same_id e.id id then e ∷ [] else e ∷ through id es

abbrev pub above : NodeId → List OpenElement → List OpenElement
above id [] = []
above id (e ∷ es) = if same_id e.id id then es else above id es

-- another one put right below the one of that id
abbrev pub with_below : NodeId → OpenElement → List OpenElement → List OpenElement
with_below id entry es = below id es ++ entry ∷ from_on id es

-- of the special elements below that one, the one that is closest to it; `found` is the one so far
abbrev pub block_below : NodeId → Option NodeId → List OpenElement → Option NodeId
block_below id found [] = found
block_below id found (e ∷ es) =
    if same_id e.id id then found else block_below id (if is_one_of group.Special e.name then Some e.id else found) es

-- the appropriate place where the target is the first of these elements, on that stack
abbrev pub place_for : Bool → List OpenElement → List OpenElement → Place
place_for foster [] st = Page
place_for foster (e ∷ es) st = if foster && is_one_of group.FosterTargets e.name then foster_place st else place_in e
