-- Lists of attributes.
use Rattle.std.specs.Prelude.{◌≡◌, ℕ, Bool, false, ◌||◌, if◌then◌else◌, List, [], ◌∷◌, ◌++◌, Option, Some, None, String}
use Rattle.std.specs.Str.{chars, IsUtf8}
use Rattle.std.specs.Global.{Global, Box}
use Rattle.std.specs.BTreeSet.{BTreeSet, contains_text}
use Rattle.std.specs.Arc.{arc_value}
use Rattle.std.specs.declared.sync.Arc.{Arc}
use Rattle.html_types.specs.Text.{same_text}
use Rattle.html_types.specs.declared.attributes.Attribute.{Attribute}
use Rattle.html_types.specs.declared.name_index.NameIndex.{NameIndex}

-- whether an attribute has the name
abbrev pub has_name : List ℕ → List Attribute → Bool
has_name name [] = false
has_name name (a ∷ as') = same_text a.name name || has_name name as'

-- the attributes with those of more whose names they lack
abbrev pub with_missing : List Attribute → List Attribute → List Attribute
with_missing as' [] = as'
with_missing as' (b ∷ bs) = with_missing (if has_name b.name as' then as' else as' ++ b ∷ []) bs

-- ---- the index of names

-- the names of the set are those of which f holds
abbrev pub Finds : BTreeSet (String Global) → (List ℕ → Bool) → Type 0
Finds names f = (bs : List ℕ) → IsUtf8 bs → contains_text names bs ≡ f (chars bs)

-- an index that is there has the names of which f holds
abbrev pub Indexes : Option (Box NameIndex) → (List ℕ → Bool) → Type 0
Indexes None f = Unit {0}
Indexes (Some index) f = Finds index.value.names f

-- ---- sharing

-- the attributes that are shared
abbrev pub shared_list : Option (Arc (List Attribute) Global) → List Attribute
shared_list None = []
shared_list (Some shared) = arc_value shared
