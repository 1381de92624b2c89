-- What a node is after a change of the store.
use Rattle.std.proofs.Common.{◌≡◌, ℕ, ◌+◌, ◌<◌, true, false, List, [], ◌∷◌, ◌++◌, length, get_or, set, take, drop, refl, sym, ap, ◌∙◌, subst, arith, length-append, length-set}
use Rattle.std.proofs.lemmas.List.{take_all, take-append-le, get_or_at, get_or_read, get_or-set_same, length_push, length-map, length-take}
use Rattle.html_types.specs.Attributes.{with_missing}
use Rattle.standard.specs.Fragment.{name_in}
use Rattle.standard.specs.Tree.{is_element, attributes_of, with_lacking}
use Rattle.html_types.specs.declared.attributes.Attribute.{Attribute}
use Rattle.html_types.specs.declared.tree.Kind.{Kind}
use Rattle.html_types.specs.declared.tree.Kind.TheVariants as kind
use Rattle.html_types.specs.declared.name.Space.{Space}
use Rattle.html_types.specs.declared.word.Word.{Word}
use Rattle.html_types.specs.declared.name.Name.{Name}
use Rattle.html_types.specs.declared.name.Name.TheVariants as name
use Rattle.text_store.specs.declared.store.Spot.TheVariants.{Inside, Apart}
use Rattle.text_store.specs.declared.lists.Run.{Run}
use Rattle.text_store.specs.declared.lists.ElementApart.{ElementApart}
use Rattle.text_store.specs.declared.lists.Store.{Store}
use Rattle.text_store.specs.declared.kinds.Kept.{Kept}
use Rattle.text_store.specs.declared.kinds.Kept.TheVariants as kept
use Rattle.text_store.specs.Lists.{mark_at, marks_at, list_at, HoldsList, no_element, element_at, KeepsAll}
use Rattle.text_store.specs.Kinds.{first_name, kind_at, HoldsKind, MeansKind}
use Rattle.text_store.proofs.ListLemmas.{list_still, missing_added}

-- a list lies there as what it is
pub list_held : (s : Store) (r : Run) (as' : List Attribute) → HoldsList s r as' → HoldsList s r (list_at s r)
list_held s r as' holds = record { inside = holds.inside; means = record { held = holds.means.held; is = refl } }

list_kept : (s s' : Store) → KeepsAll s s' → (r : Run) → HoldsList s r (list_at s r) → HoldsList s' r (list_at s' r) × (list_at s' r ≡ list_at s r)
list_kept s s' keeps r holds =
    let still = list_still s s' keeps r (list_at s r) holds in
    (list_held s' r (list_at s r) still, still.means.is)

pub kind_still : (s s' : Store) → KeepsAll s s' → (k : Kept) → HoldsKind s k → MeansKind s' k (kind_at s k)
kind_still s s' keeps kept.Document holds = record { held = tt; is = refl }
kind_still s s' keeps kept.Contents holds = record { held = tt; is = refl }
kind_still s s' keeps (kept.Doctype p) holds =
    let t = keeps.texts (Inside p) holds in
    record { held = t.0; is = rw t.1 refl }
kind_still s s' keeps (kept.Comment p) holds =
    let t = keeps.texts (Inside p) holds in
    record { held = t.0; is = rw t.1 refl }
kind_still s s' keeps (kept.Text p) holds =
    let t = keeps.texts (Inside p) holds in
    record { held = t.0; is = rw t.1 refl }
kind_still s s' keeps (kept.TextApart p) holds =
    let t = keeps.texts (Apart p) holds in
    record { held = t.0; is = rw t.1 refl }
kind_still s s' keeps (kept.Known word r) holds =
    let l = list_kept s s' keeps r holds in
    record { held = l.0; is = rw l.1 refl }
kind_still s s' keeps (kept.Other space r) holds =
    let l = list_kept s s' keeps r holds.1 in
    record { held = (holds.0, l.0); is = ap (λ (as' : List Attribute). kind.Element (name.Other space (first_name as')) (drop 1 as')) l.1 }
kind_still s s' keeps (kept.ElementApart r) holds =
    let more = keeps.apart r.from holds.0 in
    let list = (element_at s.apart.items r.from).list in record {
      held = (more.0, omega (arith, holds.1, ap length more.1.list, length-append list more.1.more));
      is = rw (more.1.name, more.1.list, take-append-le r.size list more.1.more holds.1) refl;
    }

pub means_same : (s : Store) (k' k : Kept) (a b : Kind) → k' ≡ k → MeansKind s k a → a ≡ b → MeansKind s k' b
means_same s k' k a b same means is = record { held = subst (HoldsKind s) (sym same) means.held; is = ap (kind_at s) same ∙ (means.is ∙ is) }

pub known_means : (s : Store) (word : Word) (r : Run) (as' : List Attribute) → HoldsList s r as' → MeansKind s (kept.Known word r) (kind.Element (name.Known word) as')
known_means s word r as' list = record { held = list_held s r as' list; is = rw list.means.is refl }

-- the first mark's name is that of the element
pub other_means : (s : Store) (space : Space) (r : Run) (a : Attribute) (as' : List Attribute) → HoldsList s r (a ∷ as') → MeansKind s (kept.Other space r) (kind.Element (name.Other space a.name) as')
other_means s space r a as' list =
    let some : 0 < r.size = omega (arith, ap length list.means.is, length-map (marks_at s r) (mark_at s.texts), length-take r.size (drop r.from s.marks.items)) in
    record { held = (some, list_held s r (a ∷ as') list); is = ap (λ (l : List Attribute). kind.Element (name.Other space (first_name l)) (drop 1 l)) list.means.is }

-- all that an element has apart is meant
all_of_it : (s : Store) (x : ElementApart) (r : Run) → element_at s.apart.items r.from ≡ x → r.size ≡ length x.list → kind_at s (kept.ElementApart r) ≡ kind.Element x.name x.list
all_of_it s x r here size =
    ap (λ (y : ElementApart). kind.Element y.name (take r.size y.list)) here ∙ ap (λ (l : List Attribute). kind.Element x.name l) (take_all r.size x.list (omega (arith, size)))

-- an element whose attributes stand apart is added
pub apart_means : (s : Store) (xs : List ElementApart) (x : ElementApart) (r : Run) → s.apart.items ≡ xs ++ x ∷ [] → r.from ≡ length xs → r.size ≡ length x.list → MeansKind s (kept.ElementApart r) (kind.Element x.name x.list)
apart_means s xs x r is from size =
    let here : element_at s.apart.items r.from ≡ x = ap (λ (l : List ElementApart). element_at l r.from) is ∙ get_or_at xs x [] no_element r.from (sym from) in record {
      held = (omega (arith, from, ap length is, length_push xs x), omega (arith, size, ap (λ (y : ElementApart). length y.list) here));
      is = all_of_it s x r here size;
    }

-- its attributes got more
pub longer_means : (s : Store) (x : ElementApart) (r : Run) → r.from < length s.apart.items → element_at s.apart.items r.from ≡ x → r.size ≡ length x.list → MeansKind s (kept.ElementApart r) (kind.Element x.name x.list)
longer_means s x r below here size = record {
  held = (below, omega (arith, size, ap (λ (y : ElementApart). length y.list) here));
  is = all_of_it s x r here size;
}

pub element_read : (xs : List ElementApart) (n : ℕ) (x : ElementApart) → n < length xs → x ≡ get_or xs n x → element_at xs n ≡ x
element_read xs n x below read = sym (get_or_read xs n x below read no_element)

-- all that an element has apart gets more
pub lengthened : (s s' : Store) (x y : ElementApart) (r : Run) (more : List Attribute) (size : ℕ) → r.from < length s.apart.items → element_at s.apart.items r.from ≡ x → r.size ≡ length x.list → y.name ≡ x.name
    → y.list ≡ with_missing x.list more → size ≡ length y.list → s'.apart.items ≡ set s.apart.items r.from y
    → MeansKind s' (kept.ElementApart (record { from = r.from; size = size })) (with_lacking (kind_at s (kept.ElementApart r)) more)
lengthened s s' x y r more size below read whole own list size_is is =
    let here : element_at s'.apart.items r.from ≡ y = ap (λ (l : List ElementApart). element_at l r.from) is ∙ get_or-set_same s.apart.items r.from y no_element below in
    let there : r.from < length s'.apart.items = omega (arith, below, ap length is, length-set s.apart.items r.from y) in
    let means = longer_means s' y (record { from = r.from; size = size }) there here size_is in
    let before : with_lacking (kind_at s (kept.ElementApart r)) more ≡ kind.Element x.name (with_missing x.list more) =
    ap (λ (k : Kind). with_lacking k more) (all_of_it s x r read whole) ∙ ap (λ (l : List Attribute). kind.Element x.name l) (missing_added more x.list) in
    let after : kind.Element y.name y.list ≡ kind.Element x.name (with_missing x.list more) =
    ap (λ (n : Name). kind.Element n y.list) own ∙ ap (λ (l : List Attribute). kind.Element x.name l) list in
    record { held = means.held; is = means.is ∙ (after ∙ sym before) }

-- an element is its name and its attributes
pub lacking_by : (k : Kind) (n : Name) (as' list more : List Attribute) → is_element k ≡ true → n ≡ name_in k → as' ≡ attributes_of k → list ≡ with_missing as' more → kind.Element n list ≡ with_lacking k more
lacking_by (kind.Element own attributes) n as' list more element is-name is-list is =
    rw (is-name, is, is-list) (ap (λ (l : List Attribute). kind.Element own l) (sym (missing_added more attributes)))
lacking_by kind.Document n as' list more element is-name is-list is = absurd cc
lacking_by kind.Contents n as' list more element is-name is-list is = absurd cc
lacking_by (kind.Doctype t) n as' list more element is-name is-list is = absurd cc
lacking_by (kind.Text t) n as' list more element is-name is-list is = absurd cc
lacking_by (kind.Comment t) n as' list more element is-name is-list is = absurd cc

-- anything else gets none
pub lacking_not : (k : Kind) (more : List Attribute) → is_element k ≡ false → with_lacking k more ≡ k
lacking_not (kind.Element own attributes) more other = absurd cc
lacking_not kind.Document more other = refl
lacking_not kind.Contents more other = refl
lacking_not (kind.Doctype t) more other = refl
lacking_not (kind.Text t) more other = refl
lacking_not (kind.Comment t) more other = refl

-- none are added
pub lacking_none : (k : Kind) (more : List Attribute) → more ≡ [] → with_lacking k more ≡ k
lacking_none (kind.Element own attributes) more none = rw none refl
lacking_none kind.Document more none = refl
lacking_none kind.Contents more none = refl
lacking_none (kind.Doctype t) more none = refl
lacking_none (kind.Text t) more none = refl
lacking_none (kind.Comment t) more none = refl
