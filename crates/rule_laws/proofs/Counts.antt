-- How many open elements of a kind there are: popping makes them no more, and popping until one of them is popped makes them
-- fewer, or leaves none.
use Rattle.std.proofs.Common.{◌≡◌, refl, ap, sym, subst, true≢false, ℕ, suc, ◌≤◌, ◌<◌, ◌⊎◌, inl, inr, Bool, true, false, not, ◌&&◌, ◌||◌, List, [], ◌∷◌, length, arith}
use Rattle.std.specs.Prelude.{if◌then◌else◌}
use Rattle.html_types.proofs.WordLemmas.{word_decides}
use Rattle.html_types.specs.declared.word.Word.{Word}
use Rattle.html_types.specs.declared.word.Word.TheVariants as word
use Rattle.html_types.specs.declared.name.Name.{Name}
use Rattle.html_types.specs.declared.name.Name.TheVariants.{Known, Other}
use Rattle.html_types.specs.declared.instruction.Group.TheVariants as group
use Rattle.html_types.specs.declared.open.OpenElement.{OpenElement}
use Rattle.standard.specs.Elements.{is_word, is_one_of}
use Rattle.standard.specs.Foreign.{is_html_or_point}
use Rattle.standard.specs.Instructions.{pop_foreign}
use Rattle.standard.specs.Stack.{on_stack, pop, until, pop_to, implied}

abbrev pub add : Bool → ℕ → ℕ
add true n = suc n
add false n = n

abbrev pub count : (Name → Bool) → List OpenElement → ℕ
count p [] = 0
count p (e ∷ es) = add (p e.name) (count p es)

abbrev pub all : Name → Bool
all n = true

pub count-all : (es : List OpenElement) → count all es ≡ length es
count-all [] = refl
count-all (e ∷ es) = ap suc (count-all es)

add-less : (v : Bool) (m n : ℕ) → m ≤ n → m ≤ add v n
add-less true m n h = omega (arith, h)
add-less false m n h = h

pub fewer-than-all : (p : Name → Bool) (es : List OpenElement) → count p es ≤ count all es
fewer-than-all p [] = omega arith
fewer-than-all p (e ∷ es) = by (p e.name) (fewer-than-all p es)
  where
    by : (v : Bool) → count p es ≤ count all es → add v (count p es) ≤ suc (count all es)
    by true h = omega (arith, h)
    by false h = omega (arith, h)

pub pop-fewer : (p : Name → Bool) (es : List OpenElement) → count p (pop es) ≤ count p es
pop-fewer p [] = omega arith
pop-fewer p (e ∷ es) = add-less (p e.name) (count p es) (count p es) (omega arith)

pub until-fewer : (p is : Name → Bool) (es : List OpenElement) → count p (until is es) ≤ count p es
until-fewer p is [] = omega arith
until-fewer p is (e ∷ es) = by (is e.name) (until-fewer p is es)
  where
    by : (v : Bool) → count p (until is es) ≤ count p es → count p (if v then es else until is es) ≤ add (p e.name) (count p es)
    by true h = add-less (p e.name) (count p es) (count p es) (omega arith)
    by false h = add-less (p e.name) (count p (until is es)) (count p es) h

pub pop_to-fewer : (p is : Name → Bool) (es : List OpenElement) → count p (pop_to is es) ≤ count p es
pop_to-fewer p is [] = omega arith
pop_to-fewer p is (e ∷ es) = by (is e.name) (pop_to-fewer p is es)
  where
    by : (v : Bool) → count p (pop_to is es) ≤ count p es → count p (if v then e ∷ es else pop_to is es) ≤ add (p e.name) (count p es)
    by true h = omega arith
    by false h = add-less (p e.name) (count p (pop_to is es)) (count p es) h

pub pop_foreign-fewer : (p : Name → Bool) (es : List OpenElement) → count p (pop_foreign es) ≤ count p es
pop_foreign-fewer p [] = omega arith
pop_foreign-fewer p (e ∷ es) = by (is_html_or_point e) (pop_foreign-fewer p es)
  where
    by : (v : Bool) → count p (pop_foreign es) ≤ count p es → count p (if v then e ∷ es else pop_foreign es) ≤ add (p e.name) (count p es)
    by true h = omega arith
    by false h = add-less (p e.name) (count p (pop_foreign es)) (count p es) h

pub implied-fewer : (p but : Name → Bool) (es : List OpenElement) → count p (implied but es) ≤ count p es
implied-fewer p but [] = omega arith
implied-fewer p but (e ∷ es) = by (is_one_of group.ClosedImplicitly e.name && not (but e.name)) (implied-fewer p but es)
  where
    by : (v : Bool) → count p (implied but es) ≤ count p es → count p (if v then implied but es else e ∷ es) ≤ add (p e.name) (count p es)
    by true h = add-less (p e.name) (count p (implied but es)) (count p es) h
    by false h = omega arith

one-fewer : (p : Name → Bool) (e : OpenElement) (es : List OpenElement) → p e.name ≡ true → count p es < count p (e ∷ es)
one-fewer p e es h = let q : count p (e ∷ es) ≡ suc (count p es) = ap (λ v. add v (count p es)) h in omega (arith, q)

-- until one of those that are counted: there are fewer, or all are popped
pub until-cuts : (p is : Name → Bool) → ((n : Name) → is n ≡ true → p n ≡ true) → (es : List OpenElement) → (count p (until is es) < count p es) ⊎ (until is es ≡ [])
until-cuts p is among [] = inr refl
until-cuts p is among (e ∷ es) = by (is e.name) refl (until-cuts p is among es)
  where
    deeper : (count p (until is es) < count p es) ⊎ (until is es ≡ []) → (count p (until is es) < add (p e.name) (count p es)) ⊎ (until is es ≡ [])
    deeper (inl h) = inl (add-less (p e.name) (suc (count p (until is es))) (count p es) h)
    deeper (inr h) = inr h

    by : (v : Bool) → is e.name ≡ v → (count p (until is es) < count p es) ⊎ (until is es ≡ [])
        → (count p (if v then es else until is es) < add (p e.name) (count p es)) ⊎ ((if v then es else until is es) ≡ [])
    by true q h = inl (one-fewer p e es (among e.name q))
    by false q h = deeper h

-- where one is on the stack there are fewer
pub until-falls : (p is : Name → Bool) → ((n : Name) → is n ≡ true → p n ≡ true) → (es : List OpenElement) → on_stack is es ≡ true → count p (until is es) < count p es
until-falls p is among [] h = absurd (true≢false (sym h))
until-falls p is among (e ∷ es) h = by (is e.name) refl h (until-falls p is among es)
  where
    by : (v : Bool) → is e.name ≡ v → (v || on_stack is es) ≡ true → (on_stack is es ≡ true → count p (until is es) < count p es)
        → count p (if v then es else until is es) < add (p e.name) (count p es)
    by true q g rest = one-fewer p e es (among e.name q)
    by false q g rest = add-less (p e.name) (suc (count p (until is es))) (count p es) (rest g)

-- ---- the elements of which a round that resets the mode pops one

abbrev pub is_weighty : Name → Bool
is_weighty n = is_word word.Select n || (is_word word.Table n || is_word word.Template n)

pub weighty-word : (w : Word) → is_weighty (Known w) ≡ true → (n : Name) → is_word w n ≡ true → is_weighty n ≡ true
weighty-word w h (Known v) e = let P : Word → Type 0 = λ u. is_weighty (Known u) ≡ true in subst P (sym ((word_decides v w).0 e)) h
weighty-word w h (Other s t) e = absurd (true≢false (sym e))
