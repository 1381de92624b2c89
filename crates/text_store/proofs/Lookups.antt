-- A value that is looked for among attributes.
use Rattle.std.proofs.Common.{◌≡◌, ℕ, ◌+◌, ◌-◌, ◌<◌, ◌≤◌, zero, suc, Bool, true, false, cond, List, [], ◌∷◌, ◌++◌, length, get_or, drop, map, Some, None, refl, ap, ◌∙◌, arith, subst}
use Rattle.std.specs.Option.{option_map}
use Rattle.std.specs.Prelude.{slice_get}
use Rattle.std.proofs.lemmas.List.{drop_more}
use Rattle.std.proofs.lemmas.Option.{slice_get-map, slice_get-get_or}
use Rattle.html_types.specs.Text.{same_text}
use Rattle.html_types.specs.declared.attributes.Attribute.{Attribute}
use Rattle.standard.specs.Tree.{attribute}
use Rattle.text_store.specs.declared.store.TextStore.{TextStore}
use Rattle.text_store.specs.declared.store.Spot.TheVariants.{Inside}
use Rattle.text_store.specs.declared.lists.Mark.{Mark}
use Rattle.text_store.specs.Stores.{text_at, Holds}
use Rattle.text_store.specs.Lists.{mark_at, HoldsMarks}
use Rattle.text_store.specs.Kinds.{first_name}

-- what a number that no mark has stands for
abbrev pub no_mark : Mark
no_mark = record { name = record { from = 0; size = 0 }; value = record { from = 0; size = 0 } }

module _ (s : TextStore) (n : List ℕ) (ms : List Mark) (i : ℕ) (below : i < length ms) where
  abbrev m : Mark
  m = get_or ms i no_mark

  at : drop i ms ≡ m ∷ drop (i + 1) ms
  at = drop_more ms i no_mark below

  pub value_here : same_text (text_at s (Inside m.name)) n ≡ true → attribute n (map (mark_at s) (drop i ms)) ≡ Some (text_at s (Inside m.value))
  value_here same = ap (λ (l : List Mark). attribute n (map (mark_at s) l)) at ∙ rw same refl

  pub value_past : same_text (text_at s (Inside m.name)) n ≡ false → attribute n (map (mark_at s) (drop i ms)) ≡ attribute n (map (mark_at s) (drop (i + 1) ms))
  value_past other = ap (λ (l : List Mark). attribute n (map (mark_at s) l)) at ∙ rw other refl

  pub held_past : HoldsMarks s (drop i ms) → HoldsMarks s (drop (i + 1) ms)
  held_past h =
      let all : HoldsMarks s (m ∷ drop (i + 1) ms) = subst (λ (l : List Mark). HoldsMarks s l) at h in
      all.1

-- each of the marks that lie there lies there
pub mark_held : (s : TextStore) (ms : List Mark) (i : ℕ) → HoldsMarks s ms → i < length ms → Holds s (Inside (get_or ms i no_mark).name) × Holds s (Inside (get_or ms i no_mark).value)
mark_held s [] i h below = absurd (omega (arith, below))
mark_held s (m ∷ ms) zero h below = h.0
mark_held s (m ∷ ms) (suc i) h below = mark_held s ms i h.1 (omega (arith, below))

-- and is one of the attributes
pub mark_found : (s : TextStore) (ms : List Mark) (i : ℕ) → i < length ms → slice_get (map (mark_at s) ms) i ≡ Some (mark_at s (get_or ms i no_mark))
mark_found s ms i below = slice_get-map (mark_at s) ms i ∙ ap (option_map (mark_at s)) (slice_get-get_or ms i no_mark below)

-- ---- the first mark, and those behind it

pub first_named : (s : TextStore) (ms : List Mark) → 0 < length ms → text_at s (Inside (get_or ms 0 no_mark).name) ≡ first_name (map (mark_at s) ms)
first_named s [] some = absurd (omega (arith, some))
first_named s (m ∷ ms) some = refl

pub rest_held : (s : TextStore) (ms : List Mark) → HoldsMarks s ms → HoldsMarks s (drop 1 ms)
rest_held s [] h = h
rest_held s (m ∷ ms) h = h.1

pub rest_mapped : (s : TextStore) (ms : List Mark) → map (mark_at s) (drop 1 ms) ≡ drop 1 (map (mark_at s) ms)
rest_mapped s [] = refl
rest_mapped s (m ∷ ms) = refl

-- ---- two lists behind one another

pub get_left : (xs ys : List Attribute) (i : ℕ) (x : Attribute) → slice_get xs i ≡ Some x → slice_get (xs ++ ys) i ≡ Some x
get_left [] ys i x is = absurd cc
get_left (y ∷ xs) ys zero x is = is
get_left (y ∷ xs) ys (suc i) x is = get_left xs ys i x is

pub get_right : (xs ys : List Attribute) (i : ℕ) → length xs ≤ i → slice_get (xs ++ ys) i ≡ slice_get ys (i - length xs)
get_right [] ys i below =
    let e : i ≡ i - 0 = omega arith in
    ap (slice_get ys) e
get_right (x ∷ xs) ys zero below = absurd (omega (arith, below))
get_right (x ∷ xs) ys (suc i) below =
    let e : i - length xs ≡ suc i - suc (length xs) = omega arith in
    get_right xs ys i (omega (arith, below)) ∙ ap (slice_get ys) e

module _ (n : List ℕ) (ys : List Attribute) where
  pub attribute_front : (xs : List Attribute) (v : List ℕ) → attribute n xs ≡ Some v → attribute n (xs ++ ys) ≡ Some v
  attribute_front [] v is = absurd cc
  attribute_front (x ∷ xs) v is = pick (same_text x.name n) (λ (h : attribute n xs ≡ Some v). attribute_front xs v h) is
    where
      pick : (t : Bool) → (attribute n xs ≡ Some v → attribute n (xs ++ ys) ≡ Some v) → cond t (Some x.value) (attribute n xs) ≡ Some v → cond t (Some x.value) (attribute n (xs ++ ys)) ≡ Some v
      pick true rest is = is
      pick false rest is = rest is

  pub attribute_behind : (xs : List Attribute) → attribute n xs ≡ None → attribute n (xs ++ ys) ≡ attribute n ys
  attribute_behind [] none = refl
  attribute_behind (x ∷ xs) none = pick (same_text x.name n) (λ (h : attribute n xs ≡ None). attribute_behind xs h) none
    where
      pick : (t : Bool) → (attribute n xs ≡ None → attribute n (xs ++ ys) ≡ attribute n ys) → cond t (Some x.value) (attribute n xs) ≡ None → cond t (Some x.value) (attribute n (xs ++ ys)) ≡ attribute n ys
      pick true rest none = absurd cc
      pick false rest none = rest none
