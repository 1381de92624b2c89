-- The longest name that a text begins with, as the text grows.
use Rattle.std.proofs.Common.{◌≡◌, ℕ, zero, suc, ltb, ◌<◌, ◌≤◌, Bool, true, false, cond, List, [], ◌∷◌, ◌++◌, length, get_or, Option, Some, None, Less, nat_cmp, refl, sym, ap, ◌∙◌, subst, inl, inr, arith}
use Rattle.std.specs.Cmp.Lexicographic.{slice_cmp}
use Rattle.std.specs.List.{AllByRecursion}
use Rattle.std.proofs.lemmas.Bool.{false≢true, cases_cond, false_from_ne_true, cond-false, le-ltb, or_left, or_right, or_from}
use Rattle.std.proofs.lemmas.Map.Keys.{sorted_head, sorted_tail}
use Rattle.standard.specs.Entities.{Entity, Entities, is_front, begins_some, longer, longest}
use Rattle.entity_table.specs.Order.{names_of, AreInOrder}
use Rattle.entity_table.specs.Parts.{name_at}
use Rattle.entity_table.proofs.Fronts.{front-longer, front-length, front-same, front-not_above}

-- where no name is the longer text, it finds what the text found
pub longest-longer : (es : Entities) (text : List ℕ) (c : ℕ) → ((k : ℕ) → k < length es → name_at (names_of es) k ≡ text ++ c ∷ [] → ⊥) → longest (text ++ c ∷ []) es ≡ longest text es
longest-longer [] text c apart = refl
longest-longer (e ∷ es) text c apart =
    let front = front-longer e.name text c (apart 0 (omega arith)) in
    let rest = longest-longer es text c (λ k h. apart (suc k) (omega arith)) in
    rw (front, rest)

longest-above : (es : Entities) (text : List ℕ) → AllByRecursion (λ y. slice_cmp nat_cmp text y ≡ Less) (names_of es) → longest text es ≡ None
longest-above [] text h = refl
longest-above (e ∷ es) text h =
    let front : is_front e.name text ≡ false = false_from_ne_true (is_front e.name text) (λ t. front-not_above e.name text t h.0) in
    rw front (longest-above es text h.1)

keeps : (b : Bool) (e f : Entity) (o : Option Entity) → (b ≡ true → length e.name ≤ length f.name) → o ≡ Some f → cond b (longer e o) o ≡ Some f
keeps true e f o short is = rw is (cond-false _ _ _ (le-ltb (length f.name) (length e.name) (short refl)))
keeps false e f o short is = is

name_of_item : (es : Entities) (k : ℕ) (d : Entity) → k < length es → name_at (names_of es) k ≡ (get_or es k d).name
name_of_item [] k d h = absurd (omega arith)
name_of_item (e ∷ es) zero d h = refl
name_of_item (e ∷ es) (suc k) d h = name_of_item es k d (omega arith)

-- a name that is the whole text is the longest
pub longest-whole : (es : Entities) (text : List ℕ) (k : ℕ) (d : Entity) → AreInOrder (names_of es) → k < length es → name_at (names_of es) k ≡ text → longest text es ≡ Some (get_or es k d)
longest-whole [] text k d order h is = absurd (omega arith)
longest-whole (e ∷ es) text zero d order h is =
    let above : longest e.name es ≡ None = longest-above es e.name (sorted_head (slice_cmp nat_cmp) e.name (names_of es) order) in
    let P : List ℕ → Type 0 = λ t. longest t (e ∷ es) ≡ Some e in
    subst P is (rw (front-same e.name, above))
longest-whole (e ∷ es) text (suc k) d order h is =
    let rest = longest-whole es text k d (sorted_tail (slice_cmp nat_cmp) e.name (names_of es) order) (omega arith) is in
    let long : length text ≡ length (get_or es k d).name = ap length (sym is ∙ name_of_item es k d (omega arith)) in
    keeps (is_front e.name text) e (get_or es k d) (longest text es) (λ t. let short = front-length e.name text t in omega arith) rest

longer_front : (e : Entity) (o : Option Entity) (text : List ℕ) (f : Entity) → is_front e.name text ≡ true → ((g : Entity) → o ≡ Some g → is_front g.name text ≡ true) → longer e o ≡ Some f → is_front f.name text ≡ true
longer_front e None text f here rest is = let same : e ≡ f = cc in subst (λ x. is_front x.name text ≡ true) same here
longer_front e (Some g) text f here rest is =
    elim (cases_cond (ltb (length g.name) (length e.name)) (Some e) (Some g) (Some f) (sym is)) [
      | inl first ↦ let same : e ≡ f = cc in subst (λ x. is_front x.name text ≡ true) same here
      | inr second ↦ let same : g ≡ f = cc in subst (λ x. is_front x.name text ≡ true) same (rest g refl)
    ]

front_of_either : (b : Bool) (e : Entity) (o : Option Entity) (text : List ℕ) (f : Entity) → is_front e.name text ≡ b → ((g : Entity) → o ≡ Some g → is_front g.name text ≡ true) → cond b (longer e o) o ≡ Some f → is_front f.name text ≡ true
front_of_either true e o text f here rest is = longer_front e o text f here rest is
front_of_either false e o text f here rest is = rest f is

-- the text begins with what was found
pub longest-front : (es : Entities) (text : List ℕ) (f : Entity) → longest text es ≡ Some f → is_front f.name text ≡ true
longest-front [] text f is = cc
longest-front (e ∷ es) text f is =
    front_of_either (is_front e.name text) e (longest text es) text f refl (λ g h. longest-front es text g h) is

-- so it is no longer than the text
pub longest-length : (es : Entities) (text : List ℕ) (f : Entity) → longest text es ≡ Some f → length f.name ≤ length text
longest-length es text f is = front-length f.name text (longest-front es text f is)

-- ---- some name begins with the text

pub begins_some-at : (es : Entities) (text : List ℕ) (k : ℕ) → k < length es → is_front text (name_at (names_of es) k) ≡ true → begins_some text es ≡ true
begins_some-at [] text k h front = absurd (omega arith)
begins_some-at (e ∷ es) text zero h front = or_left (is_front text e.name) _ front
begins_some-at (e ∷ es) text (suc k) h front = or_right (is_front text e.name) _ (begins_some-at es text k (omega arith) front)

pub begins_some-none : (es : Entities) (text : List ℕ) → ((k : ℕ) → k < length es → is_front text (name_at (names_of es) k) ≡ false) → begins_some text es ≡ false
begins_some-none [] text none = refl
begins_some-none (e ∷ es) text none =
    or_from (is_front text e.name) _ (none 0 (omega arith)) (begins_some-none es text (λ k h. none (suc k) (omega arith)))

-- where no name begins with the longer text, it finds what the text found
pub longest-stop : (es : Entities) (text : List ℕ) (c : ℕ) → begins_some (text ++ c ∷ []) es ≡ false → longest (text ++ c ∷ []) es ≡ longest text es
longest-stop es text c none =
    longest-longer es text c (λ k h is.
    let front : is_front (text ++ c ∷ []) (name_at (names_of es) k) ≡ true = subst (λ n. is_front (text ++ c ∷ []) n ≡ true) (sym is) (front-same (text ++ c ∷ [])) in
    false≢true (sym none ∙ begins_some-at es (text ++ c ∷ []) k h front))
