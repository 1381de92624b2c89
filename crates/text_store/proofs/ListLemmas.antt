-- What a store names of attributes after a change.
use Rattle.std.proofs.Common.{◌≡◌, ℕ, ◌+◌, ◌<◌, ◌≤◌, Bool, true, false, zero, suc, cond, List, [], ◌∷◌, ◌++◌, length, set, take, drop, map, Some, refl, sym, ap, ◌∙◌, arith, append-nil, length-append, length-set}
use Rattle.std.specs.Prelude.{slice_get}
use Rattle.std.specs.List.{flat_map}
use Rattle.std.proofs.lemmas.Grind.{flat_map-append}
use Rattle.std.proofs.lemmas.List.Concat.{flat_map-cons}
use Rattle.std.proofs.lemmas.Option.{slice_get_within, get_or_from_slice_get}
use Rattle.std.proofs.lemmas.List.{map-append, append_assoc, take_all, take_more, take-append-le, drop-append-le, drop_at, length-drop, get_or_append_left, length_push}
use Rattle.html_types.specs.declared.attributes.Attribute.{Attribute}
use Rattle.html_types.specs.Attributes.{has_name, with_missing}
use Rattle.standard.specs.Tree.{add_attributes}
use Rattle.text_store.specs.declared.store.TextStore.{TextStore}
use Rattle.text_store.specs.declared.store.Spot.TheVariants.{Inside}
use Rattle.text_store.specs.declared.lists.Mark.{Mark}
use Rattle.text_store.specs.declared.lists.Run.{Run}
use Rattle.text_store.specs.declared.lists.ElementApart.{ElementApart}
use Rattle.text_store.specs.declared.lists.Store.{Store}
use Rattle.text_store.specs.Stores.{Keeps, HoldsText}
use Rattle.text_store.specs.Lists.{mark_at, HoldsMarks, Means, marks_at, HoldsList, no_element, element_at, IsLonger, AllLonger, KeepsAll, GetsMarks}

pub keeps_not : (s : TextStore) → Keeps s s
keeps_not s x holds = (holds, refl)

pub keeps_then : (s s' s'' : TextStore) → Keeps s s' → Keeps s' s'' → Keeps s s''
keeps_then s s' s'' one two x holds =
    let first = one x holds in
    let then = two x first.0 in
    (then.0, then.1 ∙ first.1)

-- ---- elements whose attributes stand apart

longer_not : (x : ElementApart) → IsLonger x x
longer_not x = record { name = refl; more = []; list = sym (append-nil x.list) }

longer_then : (x y z : ElementApart) → IsLonger x y → IsLonger y z → IsLonger x z
longer_then x y z one two = record {
  name = two.name ∙ one.name;
  more = one.more ++ two.more;
  list = two.list ∙ (ap (λ (l : List Attribute). l ++ two.more) one.list ∙ append_assoc x.list one.more two.more);
}

pub apart_not : (xs : List ElementApart) → AllLonger xs xs
apart_not xs n below = (below, longer_not (element_at xs n))

apart_then : (xs ys zs : List ElementApart) → AllLonger xs ys → AllLonger ys zs → AllLonger xs zs
apart_then xs ys zs one two n below =
    let first = one n below in
    let then = two n first.0 in
    (then.0, longer_then (element_at xs n) (element_at ys n) (element_at zs n) first.1 then.1)

-- one more
pub apart_pushed : (xs : List ElementApart) (x : ElementApart) → AllLonger xs (xs ++ x ∷ [])
apart_pushed xs x n below =
    (omega (arith, below, length_push xs x), rw (get_or_append_left xs (x ∷ []) no_element n below) (longer_not (element_at xs n)))

-- one gets more
set_longer : (xs : List ElementApart) (k : ℕ) (y : ElementApart) → k < length xs → IsLonger (element_at xs k) y → (n : ℕ) → IsLonger (element_at xs n) (element_at (set xs k y) n)
set_longer [] k y here longer n = absurd (omega (arith, here))
set_longer (x ∷ xs) zero y here longer zero = longer
set_longer (x ∷ xs) zero y here longer (suc n) = longer_not (element_at xs n)
set_longer (x ∷ xs) (suc k) y here longer zero = longer_not x
set_longer (x ∷ xs) (suc k) y here longer (suc n) = set_longer xs k y (omega (arith, here)) longer n

pub apart_set : (xs : List ElementApart) (k : ℕ) (y : ElementApart) → k < length xs → IsLonger (element_at xs k) y → AllLonger xs (set xs k y)
apart_set xs k y here longer n below = (rw (length-set xs k y) below, set_longer xs k y here longer n)

-- what is added stands behind what was there
pub missing_behind : (bs as' : List Attribute) → (more : List Attribute) × (with_missing as' bs ≡ as' ++ more)
missing_behind [] as' = ([], sym (append-nil as'))
missing_behind (b ∷ bs) as' = pick (has_name b.name as') (λ (l : List Attribute). missing_behind bs l)
  where
    pick : (t : Bool) → ((l : List Attribute) → (more : List Attribute) × (with_missing l bs ≡ l ++ more)) → (more : List Attribute) × (with_missing (cond t as' (as' ++ b ∷ [])) bs ≡ as' ++ more)
    pick true behind = behind as'
    pick false behind =
        let rest = behind (as' ++ b ∷ []) in
        (b ∷ rest.0, rest.1 ∙ append_assoc as' (b ∷ []) rest.0)

pub missing_added : (bs as' : List Attribute) → add_attributes as' bs ≡ with_missing as' bs
missing_added [] as' = refl
missing_added (b ∷ bs) as' = missing_added bs (cond (has_name b.name as') as' (as' ++ b ∷ []))

-- ---- all of it

pub all_not : (s : Store) → KeepsAll s s
all_not s = record { texts = keeps_not s.texts; more = []; marks = sym (append-nil s.marks.items); apart = apart_not s.apart.items }

pub all_then : (s s' s'' : Store) → KeepsAll s s' → KeepsAll s' s'' → KeepsAll s s''
all_then s s' s'' one two = record {
  texts = keeps_then s.texts s'.texts s''.texts one.texts two.texts;
  more = one.more ++ two.more;
  marks = two.marks ∙ (ap (λ (l : List Mark). l ++ two.more) one.marks ∙ append_assoc s.marks.items one.more two.more);
  apart = apart_then s.apart.items s'.apart.items s''.apart.items one.apart two.apart;
}

-- ---- marks mean what they meant

pub means_still : (s s' : TextStore) → Keeps s s' → (ms : List Mark) (as' : List Attribute) → Means s ms as' → Means s' ms as'
means_still s s' keeps ms as' means = record { held = held ms means.held; is = same ms means.held ∙ means.is }
  where
    held : (ms : List Mark) → HoldsMarks s ms → HoldsMarks s' ms
    held [] h = tt
    held (m ∷ ms) h = (((keeps (Inside m.name) h.0.0).0, (keeps (Inside m.value) h.0.1).0), held ms h.1)

    same : (ms : List Mark) → HoldsMarks s ms → map (mark_at s') ms ≡ map (mark_at s) ms
    same [] h = refl
    same (m ∷ ms) h = rw ((keeps (Inside m.name) h.0.0).1, (keeps (Inside m.value) h.0.1).1, same ms h.1) refl

means_append : (s : TextStore) (ms ms' : List Mark) (as' bs : List Attribute) → Means s ms as' → Means s ms' bs → Means s (ms ++ ms') (as' ++ bs)
means_append s ms ms' as' bs one two = record { held = held ms one.held; is = map-append (mark_at s) ms ms' ∙ rw (one.is, two.is) refl }
  where
    held : (ms : List Mark) → HoldsMarks s ms → HoldsMarks s (ms ++ ms')
    held [] h = two.held
    held (m ∷ ms) h = (h.0, held ms h.1)

-- a list lies where it lay
pub list_still : (s s' : Store) → KeepsAll s s' → (r : Run) (as' : List Attribute) → HoldsList s r as' → HoldsList s' r as'
list_still s s' keeps r as' holds =
    let marks : marks_at s' r ≡ marks_at s r =
    rw (keeps.marks, drop-append-le r.from s.marks.items keeps.more (omega (arith, holds.inside)))
    (take-append-le r.size (drop r.from s.marks.items) keeps.more (omega (arith, holds.inside, length-drop r.from s.marks.items))) in record {
      inside = rw keeps.marks (omega (arith, holds.inside, length-append s.marks.items keeps.more));
      means = rw marks (means_still s.texts s'.texts keeps.texts (marks_at s r) as' holds.means);
    }

-- ---- marks that are added

pub gets_none : (s : Store) → GetsMarks s s []
gets_none s = record { new = []; marks = sym (append-nil s.marks.items); means = record { held = tt; is = refl } }

pub gets_then : (s s' s'' : Store) (as' bs : List Attribute) → GetsMarks s s' as' → KeepsAll s' s'' → GetsMarks s' s'' bs → GetsMarks s s'' (as' ++ bs)
gets_then s s' s'' as' bs one keeps two = record {
  new = one.new ++ two.new;
  marks = two.marks ∙ (ap (λ (l : List Mark). l ++ two.new) one.marks ∙ append_assoc s.marks.items one.new two.new);
  means = means_append s''.texts one.new two.new as' bs (means_still s'.texts s''.texts keeps.texts one.new as' one.means) two.means;
}

-- they are the list of all marks from there on
pub list_of_marks : (s s' : Store) (as' : List Attribute) (r : Run) → GetsMarks s s' as' → r.from ≡ length s.marks.items → r.from + r.size ≡ length s'.marks.items → HoldsList s' r as'
list_of_marks s s' as' r gets from all =
    let here : drop r.from s'.marks.items ≡ gets.new = ap (drop r.from) gets.marks ∙ drop_at s.marks.items gets.new r.from (sym from) in
    let size : length gets.new ≤ r.size = omega (arith, from, all, ap length gets.marks, length-append s.marks.items gets.new) in
    let marks : marks_at s' r ≡ gets.new = ap (take r.size) here ∙ take_all r.size gets.new size in
    record { inside = omega (arith, all); means = rw marks gets.means }

-- what stands apart changes, and all else is as it was
pub apart_kept : (s s' : Store) → s'.texts ≡ s.texts → s'.marks.items ≡ s.marks.items → AllLonger s.apart.items s'.apart.items → KeepsAll s s'
apart_kept s s' texts marks longer = record { texts = rw texts (keeps_not s.texts); more = []; marks = marks ∙ sym (append-nil s.marks.items); apart = longer }

-- no attributes are at no place
pub no_list : (s : Store) (as' : List Attribute) → length as' ≡ 0 → HoldsList s (record { from = 0; size = 0 }) as'
no_list s [] none = record { inside = omega arith; means = record { held = tt; is = refl } }
no_list s (a ∷ as') none = absurd cc

-- marks and texts that are added leave what stands apart
pub marks_kept : (s s' : Store) (more : List Mark) → Keeps s.texts s'.texts → s'.marks.items ≡ s.marks.items ++ more → s'.apart.items ≡ s.apart.items → KeepsAll s s'
marks_kept s s' more texts marks apart = record { texts = texts; more = more; marks = marks; apart = rw apart (apart_not s.apart.items) }

-- a text is added
pub texts_kept : (s s' : Store) → Keeps s.texts s'.texts → s'.marks.items ≡ s.marks.items → s'.apart.items ≡ s.apart.items → KeepsAll s s'
texts_kept s s' texts marks apart = marks_kept s s' [] texts (marks ∙ sym (append-nil s.marks.items)) apart

-- a mark is
pub mark_kept : (s s' : Store) (m : Mark) → Keeps s.texts s'.texts → s'.marks.items ≡ s.marks.items ++ m ∷ [] → s'.apart.items ≡ s.apart.items → KeepsAll s s'
mark_kept s s' m texts marks apart = marks_kept s s' (m ∷ []) texts marks apart

-- a mark whose texts lie there
pub mark_means : (s : TextStore) (m : Mark) (a : Attribute) → HoldsText s (Inside m.name) a.name → HoldsText s (Inside m.value) a.value → Means s (m ∷ []) (a ∷ [])
mark_means s m a name value = record { held = ((name.0, value.0), tt); is = rw (name.1, value.1) refl }

-- ---- a list that is gone over

pub take_seen : (as' : List Attribute) (i : ℕ) (a : Attribute) → slice_get as' i ≡ Some a → take (i + 1) as' ≡ take i as' ++ a ∷ []
take_seen as' i a seen =
    take_more as' i a (slice_get_within as' i a seen) ∙ ap (λ (x : Attribute). take i as' ++ x ∷ []) (get_or_from_slice_get as' i a a seen)

pub flat_seen : (f : Attribute → List ℕ) (as' : List Attribute) (i : ℕ) (a : Attribute) → slice_get as' i ≡ Some a → flat_map f (take (i + 1) as') ≡ flat_map f (take i as') ++ f a
flat_seen f as' i a seen =
    ap (flat_map f) (take_seen as' i a seen)
    ∙ (flat_map-append f (take i as') (a ∷ []) ∙ ap (λ (l : List ℕ). flat_map f (take i as') ++ l) (flat_map-cons f a [] ∙ append-nil (f a)))
