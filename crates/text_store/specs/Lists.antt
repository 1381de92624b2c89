-- What a store names of attributes.
use Rattle.std.specs.Prelude.{◌≡◌, ℕ, ◌+◌, ◌<◌, ◌≤◌, List, [], ◌∷◌, ◌++◌, map, length, take, drop, slice_index_or}
use Rattle.html_types.specs.declared.attributes.Attribute.{Attribute}
use Rattle.html_types.specs.declared.name.Name.TheVariants.{Other}
use Rattle.html_types.specs.declared.name.Space.TheVariants.{Html}
use Rattle.text_store.specs.declared.store.TextStore.{TextStore}
use Rattle.text_store.specs.declared.store.Spot.TheVariants.{Inside}
use Rattle.text_store.specs.declared.lists.Mark.{Mark}
use Rattle.text_store.specs.declared.lists.Run.{Run}
use Rattle.text_store.specs.declared.lists.ElementApart.{ElementApart}
use Rattle.text_store.specs.declared.lists.Store.{Store}
use Rattle.text_store.specs.Stores.{text_at, Holds, Keeps}

abbrev pub mark_at : TextStore → Mark → Attribute
mark_at s m = record { name = text_at s (Inside m.name); value = text_at s (Inside m.value) }

abbrev pub HoldsMarks : TextStore → List Mark → Type 0
HoldsMarks s [] = Unit {0}
HoldsMarks s (m ∷ ms) = (Holds s (Inside m.name) × Holds s (Inside m.value)) × HoldsMarks s ms

-- these marks are those attributes
pub record Means (s : TextStore) (ms : List Mark) (as' : List Attribute) : Type 0 where
  pub held : HoldsMarks s ms
  pub is : map (mark_at s) ms ≡ as'

abbrev pub marks_at : Store → Run → List Mark
marks_at s r = take r.size (drop r.from s.marks.items)

-- the list that lies there
abbrev pub list_at : Store → Run → List Attribute
list_at s r = map (mark_at s.texts) (marks_at s r)

-- that list lies there
pub record HoldsList (s : Store) (r : Run) (as' : List Attribute) : Type 0 where
  pub inside : r.from + r.size ≤ length s.marks.items
  pub means : Means s.texts (marks_at s r) as'

-- ---- elements whose attributes stand apart

-- what a number that no element has stands for
abbrev pub no_element : ElementApart
no_element = record { name = Other Html []; list = [] }

abbrev pub element_at : List ElementApart → ℕ → ElementApart
element_at xs n = slice_index_or xs n no_element

-- the same element, with more attributes
pub record IsLonger (x : ElementApart) (y : ElementApart) : Type 0 where
  pub name : y.name ≡ x.name
  pub more : List Attribute
  pub list : y.list ≡ x.list ++ more

-- those that were there are there, maybe with more attributes
abbrev pub AllLonger : List ElementApart → List ElementApart → Type 0
AllLonger xs ys = (n : ℕ) → n < length xs → (n < length ys) × IsLonger (element_at xs n) (element_at ys n)

-- ---- changes

-- what lay anywhere still lies there
pub record KeepsAll (s : Store) (s' : Store) : Type 0 where
  pub texts : Keeps s.texts s'.texts
  pub more : List Mark
  pub marks : s'.marks.items ≡ s.marks.items ++ more
  pub apart : AllLonger s.apart.items s'.apart.items

-- so many marks more, which are the attributes
pub record GetsMarks (s : Store) (s' : Store) (as' : List Attribute) : Type 0 where
  pub new : List Mark
  pub marks : s'.marks.items ≡ s.marks.items ++ new
  pub means : Means s'.texts new as'
