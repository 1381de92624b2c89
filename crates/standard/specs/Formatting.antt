-- The list of active formatting elements (13.2.4.3 #the-list-of-active-formatting-elements), the
-- latest first.
use Rattle.std.specs.Prelude.{ℕ, ◌+◌, ◌==◌, nat_le, Bool, true, false, ◌&&◌, ◌||◌, cond, if◌then◌else◌, List, [], ◌∷◌, ◌++◌, Option, Some, None}
use Rattle.html_types.specs.Text.{same_text}
use Rattle.html_types.specs.Names.{same_name}
use Rattle.html_types.specs.Operations.{same_id}
use Rattle.html_types.specs.declared.attributes.Attribute.{Attribute}
use Rattle.html_types.specs.declared.name.Name.{Name}
use Rattle.html_types.specs.declared.operation.NodeId.{NodeId}
use Rattle.html_types.specs.declared.token.Tag.{Tag}
use Rattle.html_types.specs.declared.open.OpenElement.{OpenElement}
use Rattle.standard.specs.Stack.{is_open}
use Rattle.html_types.specs.declared.open.FormattingEntry.{FormattingEntry}
use Rattle.html_types.specs.declared.open.FormattingEntry.TheVariants.{Marker, Element}

abbrev pub listed : (Name → Bool) → List FormattingEntry → Bool
listed is [] = false
listed is (Marker ∷ fs) = false
listed is (Element id tag ∷ fs) = is tag.name || listed is fs

abbrev pub clear_to_marker : List FormattingEntry → List FormattingEntry
clear_to_marker [] = []
clear_to_marker (Marker ∷ fs) = fs
clear_to_marker (Element id tag ∷ fs) = clear_to_marker fs

-- what stands from the last marker or open entry on, and the entries behind it, the latest first
abbrev pub kept : List OpenElement → List FormattingEntry → List FormattingEntry
kept st [] = []
kept st (Marker ∷ fs) = Marker ∷ fs
kept st (Element id tag ∷ fs) = if is_open id st then Element id tag ∷ fs else kept st fs

abbrev pub lost : List OpenElement → List FormattingEntry → List Tag
lost st [] = []
lost st (Marker ∷ fs) = []
lost st (Element id tag ∷ fs) = if is_open id st then [] else tag ∷ lost st fs

-- ---- an entry more

abbrev pub same_attribute : Attribute → Attribute → Bool
same_attribute a b = same_text a.name b.name && same_text a.value b.value

abbrev pub has_attribute : Attribute → List Attribute → Bool
has_attribute a [] = false
has_attribute a (b ∷ bs) = same_attribute a b || has_attribute a bs

abbrev pub are_among : List Attribute → List Attribute → Bool
are_among [] bs = true
are_among (a ∷ as') bs = has_attribute a bs && are_among as' bs

-- the same attributes, whatever their order
abbrev pub same_attributes : List Attribute → List Attribute → Bool
same_attributes as' bs = are_among as' bs && are_among bs as'

abbrev pub is_like : Tag → Tag → Bool
is_like s t = same_name s.name t.name && same_attributes s.attributes t.attributes

-- how many entries behind the last marker are like the tag
abbrev pub likes : Tag → List FormattingEntry → ℕ
likes tag [] = 0
likes tag (Marker ∷ fs) = 0
likes tag (Element id t ∷ fs) = cond (is_like tag t) 1 0 + likes tag fs

-- the list without the earliest of them
abbrev pub without_earliest : Tag → List FormattingEntry → List FormattingEntry
without_earliest tag [] = []
without_earliest tag (Marker ∷ fs) = Marker ∷ fs
without_earliest tag (Element id t ∷ fs) = if is_like tag t && (likes tag fs == 0) then fs else Element id t ∷ without_earliest tag fs

-- an element becomes an entry: where three are like it, the earliest of them is dropped
abbrev pub list_element : NodeId → Tag → List FormattingEntry → List FormattingEntry
list_element id tag fs = Element id tag ∷ (if nat_le 3 (likes tag fs) then without_earliest tag fs else fs)

-- ---- what the adoption agency algorithm asks of the list

-- the latest entry of the name, behind the last marker
abbrev pub entry_named : (Name → Bool) → List FormattingEntry → Option NodeId
entry_named is [] = None
entry_named is (Marker ∷ fs) = None
entry_named is (Element id tag ∷ fs) = if is tag.name then Some id else entry_named is fs

abbrev pub has_entry : NodeId → List FormattingEntry → Bool
has_entry id [] = false
has_entry id (Marker ∷ fs) = has_entry id fs
has_entry id (Element i tag ∷ fs) = same_id i id || has_entry id fs

abbrev pub tag_of_entry : NodeId → List FormattingEntry → Option Tag
tag_of_entry id [] = None
tag_of_entry id (Marker ∷ fs) = tag_of_entry id fs
tag_of_entry id (Element i tag ∷ fs) = if same_id i id then Some tag else tag_of_entry id fs

-- the entries behind that of an element, and those from it on, the latest first
abbrev pub later_than : NodeId → List FormattingEntry → List FormattingEntry
later_than id [] = []
later_than id (Marker ∷ fs) = Marker ∷ later_than id fs
later_than id (Element i tag ∷ fs) = if same_id i id then [] else Element i tag ∷ later_than id fs

abbrev pub entry_on : NodeId → List FormattingEntry → List FormattingEntry
entry_on id [] = []
entry_on id (Marker ∷ fs) = entry_on id fs
entry_on id (Element i tag ∷ fs) = if same_id i id then Element i tag ∷ fs else entry_on id fs

abbrev pub before_first : List FormattingEntry → List FormattingEntry
before_first [] = []
before_first (f ∷ fs) = fs

abbrev pub renewed : NodeId → List FormattingEntry → List FormattingEntry
renewed id [] = []
renewed id (Marker ∷ fs) = Marker ∷ fs
renewed id (Element i tag ∷ fs) = Element id tag ∷ fs

-- the entry taken out
abbrev pub without_entry : NodeId → List FormattingEntry → List FormattingEntry
without_entry id fs = later_than id fs ++ before_first (entry_on id fs)

-- the entry made that of another element
abbrev pub with_id : NodeId → NodeId → List FormattingEntry → List FormattingEntry
with_id id new fs = later_than id fs ++ renewed new (entry_on id fs)

-- another entry put just behind it
abbrev pub with_behind : NodeId → FormattingEntry → List FormattingEntry → List FormattingEntry
with_behind id entry fs = later_than id fs ++ entry ∷ entry_on id fs
