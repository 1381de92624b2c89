-- What a node is, whose texts and attributes lie in a store.
use Rattle.std.specs.Prelude.{◌≡◌, ℕ, ◌<◌, ◌≤◌, List, [], ◌∷◌, take, drop, length}
use Rattle.html_types.specs.declared.attributes.Attribute.{Attribute}
use Rattle.html_types.specs.declared.tree.Kind.{Kind}
use Rattle.html_types.specs.declared.tree.Kind.TheVariants as kind
use Rattle.html_types.specs.declared.name.Name.TheVariants as name
use Rattle.text_store.specs.declared.store.Spot.TheVariants.{Inside, Apart}
use Rattle.text_store.specs.declared.lists.Store.{Store}
use Rattle.text_store.specs.declared.kinds.Kept.{Kept}
use Rattle.text_store.specs.declared.kinds.Kept.TheVariants as kept
use Rattle.text_store.specs.Stores.{text_at, Holds}
use Rattle.text_store.specs.Lists.{element_at, list_at, HoldsList}

abbrev pub first_name : List Attribute → List ℕ
first_name [] = []
first_name (a ∷ as') = a.name

abbrev pub kind_at : Store → Kept → Kind
kind_at s kept.Document = kind.Document
kind_at s kept.Contents = kind.Contents
kind_at s (kept.Doctype p) = kind.Doctype (text_at s.texts (Inside p))
kind_at s (kept.Comment p) = kind.Comment (text_at s.texts (Inside p))
kind_at s (kept.Text p) = kind.Text (text_at s.texts (Inside p))
kind_at s (kept.TextApart p) = kind.Text (text_at s.texts (Apart p))
kind_at s (kept.Known word r) = kind.Element (name.Known word) (list_at s r)
kind_at s (kept.Other space r) = kind.Element (name.Other space (first_name (list_at s r))) (drop 1 (list_at s r))
kind_at s (kept.ElementApart r) = kind.Element (element_at s.apart.items r.from).name (take r.size (element_at s.apart.items r.from).list)

abbrev pub HoldsKind : Store → Kept → Type 0
HoldsKind s kept.Document = Unit {0}
HoldsKind s kept.Contents = Unit {0}
HoldsKind s (kept.Doctype p) = Holds s.texts (Inside p)
HoldsKind s (kept.Comment p) = Holds s.texts (Inside p)
HoldsKind s (kept.Text p) = Holds s.texts (Inside p)
HoldsKind s (kept.TextApart p) = Holds s.texts (Apart p)
HoldsKind s (kept.Known word r) = HoldsList s r (list_at s r)
HoldsKind s (kept.Other space r) = (0 < r.size) × HoldsList s r (list_at s r)
HoldsKind s (kept.ElementApart r) = (r.from < length s.apart.items) × (r.size ≤ length (element_at s.apart.items r.from).list)

-- the kind lies there, and is this one
pub record MeansKind (s : Store) (k : Kept) (means : Kind) : Type 0 where
  pub held : HoldsKind s k
  pub is : kind_at s k ≡ means
