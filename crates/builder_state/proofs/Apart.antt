-- Lists of attributes, without a name twice, of which neither is the other in another order, aren't the same.
use Rattle.std.proofs.Common.{◌≡◌, ◌∙◌, ◌⊎◌, inl, inr, ℕ, Bool, true, false, not, ◌&&◌, ◌||◌, List, [], ◌∷◌, ◌++◌, append_assoc, refl, sym, ap, subst, true≢false}
use Rattle.std.specs.Prelude.{IsTrue}
use Rattle.std.specs.Cmp.Lexicographic.{bytes_decides}
use Rattle.std.specs.List.Sorted.{IsPermutation}
use Rattle.std.proofs.lemmas.Bool.{cases_Bool, false_from_ne_true}
use Rattle.std.proofs.lemmas.List.Sorted.{IsPermutation-refl, IsPermutation-sym, IsPermutation-trans, IsPermutation-cons, IsPermutation-middle}
use Rattle.html_types.specs.declared.attributes.Attribute.{Attribute}
use Rattle.html_types.specs.Text.{same_text}
use Rattle.html_types.specs.Attributes.{has_name}
use Rattle.html_types.specs.Sums.{are_distinct, AreApart}
use Rattle.standard.specs.Formatting.{same_attribute, has_attribute, are_among, same_attributes}
use Rattle.builder_state.proofs.Pairs.{same-either_way}

-- ---- tests

and-first : (a b : Bool) → (a && b) ≡ true → a ≡ true
and-first true b e = refl
and-first false b e = e

and-second : (a b : Bool) → (a && b) ≡ true → b ≡ true
and-second true b e = e
and-second false b e = absurd (true≢false (sym e))

and-both : (a b : Bool) → a ≡ true → b ≡ true → (a && b) ≡ true
and-both true b h k = k
and-both false b h k = h

or-first : (a b : Bool) → (a || b) ≡ false → a ≡ false
or-first true b e = e
or-first false b e = refl

or-second : (a b : Bool) → (a || b) ≡ false → b ≡ false
or-second true b e = absurd (true≢false e)
or-second false b e = e

or-both : (a b : Bool) → a ≡ false → b ≡ false → (a || b) ≡ false
or-both true b h k = h
or-both false b h k = k

not-true : (a : Bool) → not a ≡ true → a ≡ false
not-true true e = sym e
not-true false e = refl

not-false : (a : Bool) → a ≡ false → not a ≡ true
not-false a e = ap not e

-- ---- an attribute among others

same-is : (a b : Attribute) → same_attribute a b ≡ true → b ≡ a
same-is a b e =
    let name : a.name ≡ b.name = (bytes_decides a.name b.name).0 (and-first (same_text a.name b.name) (same_text a.value b.value) e) in
    let value : a.value ≡ b.value = (bytes_decides a.value b.value).0 (and-second (same_text a.name b.name) (same_text a.value b.value) e) in
    sym (ap (λ n. record a { name = n }) name ∙ ap (λ v. record b { value = v }) value)

found : (a : Attribute) (bs : List Attribute) → has_attribute a bs ≡ true → (ys : List Attribute) × (zs : List Attribute) × (bs ≡ ys ++ a ∷ zs)
found a [] e = absurd (true≢false (sym e))
found a (b ∷ bs) e =
    elim (cases_Bool (same_attribute a b)) [
      | inl same ↦ ([], bs, ap (λ x. x ∷ bs) (same-is a b same))
      | inr apart ↦
          let rest = found a bs (sym (ap (λ s. s || has_attribute a bs) apart) ∙ e) in
          (b ∷ rest.0, rest.1, ap (λ l. b ∷ l) rest.2)
    ]

differ : (x a : Attribute) → same_text x.name a.name ≡ false → same_attribute x a ≡ false
differ x a apart = ap (λ s. s && same_text x.value a.value) apart

without : (x a : Attribute) (ys zs : List Attribute) → same_attribute x a ≡ false → has_attribute x (ys ++ a ∷ zs) ≡ has_attribute x (ys ++ zs)
without x a [] zs apart = ap (λ s. s || has_attribute x zs) apart
without x a (y ∷ ys) zs apart = ap (λ r. same_attribute x y || r) (without x a ys zs apart)

-- those of another name stay among the others without it
keep : (a : Attribute) (ys zs as' : List Attribute) → has_name a.name as' ≡ false → are_among as' (ys ++ a ∷ zs) ≡ true → are_among as' (ys ++ zs) ≡ true
keep a ys zs [] apart h = refl
keep a ys zs (x ∷ xs) apart h =
    let other = differ x a (or-first (same_text x.name a.name) (has_name a.name xs) apart) in
    let here : has_attribute x (ys ++ a ∷ zs) ≡ true = and-first (has_attribute x (ys ++ a ∷ zs)) (are_among xs (ys ++ a ∷ zs)) h in
    let rest : are_among xs (ys ++ a ∷ zs) ≡ true = and-second (has_attribute x (ys ++ a ∷ zs)) (are_among xs (ys ++ a ∷ zs)) h in
    and-both (has_attribute x (ys ++ zs)) (are_among xs (ys ++ zs)) (sym (without x a ys zs other) ∙ here) (keep a ys zs xs (or-second (same_text x.name a.name) (has_name a.name xs) apart) rest)

fewer : (a : Attribute) (bs as' : List Attribute) → has_name a.name bs ≡ false → are_among bs (a ∷ as') ≡ true → are_among bs as' ≡ true
fewer a [] as' apart h = refl
fewer a (x ∷ xs) as' apart h =
    let other = differ x a (or-first (same_text x.name a.name) (has_name a.name xs) apart) in
    let here : has_attribute x (a ∷ as') ≡ true = and-first (has_attribute x (a ∷ as')) (are_among xs (a ∷ as')) h in
    let rest : are_among xs (a ∷ as') ≡ true = and-second (has_attribute x (a ∷ as')) (are_among xs (a ∷ as')) h in
    and-both (has_attribute x as') (are_among xs as') (sym (ap (λ s. s || has_attribute x as') other) ∙ here) (fewer a xs as' (or-second (same_text x.name a.name) (has_name a.name xs) apart) rest)

middle_out : (a : Attribute) (ys zs cs : List Attribute) → are_among (ys ++ a ∷ zs) cs ≡ true → are_among (ys ++ zs) cs ≡ true
middle_out a [] zs cs h = and-second (has_attribute a cs) (are_among zs cs) h
middle_out a (y ∷ ys) zs cs h =
    and-both (has_attribute y cs) (are_among (ys ++ zs) cs) (and-first (has_attribute y cs) (are_among (ys ++ a ∷ zs) cs) h) (middle_out a ys zs cs (and-second (has_attribute y cs) (are_among (ys ++ a ∷ zs) cs) h))

-- ---- names

exchanged : (a b c : Bool) → (a || (b || c)) ≡ (b || (a || c))
exchanged true true c = refl
exchanged true false c = refl
exchanged false b c = refl

name-middle : (n : List ℕ) (a : Attribute) (ys zs : List Attribute) → has_name n (ys ++ a ∷ zs) ≡ (same_text a.name n || has_name n (ys ++ zs))
name-middle n a [] zs = refl
name-middle n a (y ∷ ys) zs = ap (λ r. same_text y.name n || r) (name-middle n a ys zs) ∙ exchanged (same_text y.name n) (same_text a.name n) (has_name n (ys ++ zs))

distinct-middle : (a : Attribute) (ys zs : List Attribute) → are_distinct (ys ++ a ∷ zs) ≡ true → (are_distinct (ys ++ zs) ≡ true) × (has_name a.name (ys ++ zs) ≡ false)
distinct-middle a [] zs d =
    (and-second (not (has_name a.name zs)) (are_distinct zs) d, not-true (has_name a.name zs) (and-first (not (has_name a.name zs)) (are_distinct zs) d))
distinct-middle a (y ∷ ys) zs d =
    let whole = ys ++ a ∷ zs in
    let rest = distinct-middle a ys zs (and-second (not (has_name y.name whole)) (are_distinct whole) d) in
    let none : (same_text a.name y.name || has_name y.name (ys ++ zs)) ≡ false = sym (name-middle y.name a ys zs) ∙ not-true (has_name y.name whole) (and-first (not (has_name y.name whole)) (are_distinct whole) d) in
    let other : same_text y.name a.name ≡ false = same-either_way y.name a.name ∙ or-first (same_text a.name y.name) (has_name y.name (ys ++ zs)) none in (
      and-both (not (has_name y.name (ys ++ zs))) (are_distinct (ys ++ zs)) (not-false (has_name y.name (ys ++ zs)) (or-second (same_text a.name y.name) (has_name y.name (ys ++ zs)) none)) rest.0,
      or-both (same_text y.name a.name) (has_name a.name (ys ++ zs)) other rest.1,
    )

-- ---- lists

in_order : (as' bs : List Attribute) → are_distinct as' ≡ true → are_distinct bs ≡ true → are_among as' bs ≡ true → are_among bs as' ≡ true → IsPermutation as' bs
in_order [] [] da db h k = IsPermutation-refl []
in_order [] (b ∷ bs) da db h k = absurd (true≢false (sym k))
in_order (a ∷ as') bs da db h k =
    let f = found a bs (and-first (has_attribute a bs) (are_among as' bs) h) in
    let ys = f.0 in
    let zs = f.1 in
    let split : bs ≡ ys ++ a ∷ zs = f.2 in
    let d = distinct-middle a ys zs (ap are_distinct (sym split) ∙ db) in
    let apart = not-true (has_name a.name as') (and-first (not (has_name a.name as')) (are_distinct as') da) in
    let there : are_among as' (ys ++ a ∷ zs) ≡ true = ap (are_among as') (sym split) ∙ and-second (has_attribute a bs) (are_among as' bs) h in
    let back : are_among (ys ++ a ∷ zs) (a ∷ as') ≡ true = ap (λ l. are_among l (a ∷ as')) (sym split) ∙ k in
    let rest = in_order as' (ys ++ zs) (and-second (not (has_name a.name as')) (are_distinct as') da) d.0 (keep a ys zs as' apart there) (fewer a (ys ++ zs) as' d.1 (middle_out a ys zs (a ∷ as') back)) in
    subst (λ l. IsPermutation (a ∷ as') l) (sym split)
    (IsPermutation-trans (a ∷ as') (a ∷ (ys ++ zs)) (ys ++ a ∷ zs) (IsPermutation-cons a as' (ys ++ zs) rest) (IsPermutation-sym (ys ++ a ∷ zs) (a ∷ (ys ++ zs)) (IsPermutation-middle ys a zs)))

pub never_same : (as' bs : List Attribute) → AreApart as' bs → same_attributes as' bs ≡ false
never_same as' bs apart =
    false_from_ne_true (same_attributes as' bs) (λ same. apart.2 (in_order as' bs apart.0 apart.1 (and-first (are_among as' bs) (are_among bs as') same) (and-second (are_among as' bs) (are_among bs as') same)))

-- ---- a list and itself

itself : (a : Attribute) → same_attribute a a ≡ true
itself a = and-both (same_text a.name a.name) (same_text a.value a.value) ((bytes_decides a.name a.name).1 refl) ((bytes_decides a.value a.value).1 refl)

has-middle : (a : Attribute) (ys zs : List Attribute) → has_attribute a (ys ++ a ∷ zs) ≡ true
has-middle a [] zs = ap (λ s. s || has_attribute a zs) (itself a)
has-middle a (y ∷ ys) zs = ap (λ r. same_attribute a y || r) (has-middle a ys zs) ∙ or-true (same_attribute a y)
  where
    or-true : (b : Bool) → (b || true) ≡ true
    or-true true = refl
    or-true false = refl

among-behind : (ys as' : List Attribute) → are_among as' (ys ++ as') ≡ true
among-behind ys [] = refl
among-behind ys (a ∷ as') =
    and-both (has_attribute a (ys ++ a ∷ as')) (are_among as' (ys ++ a ∷ as')) (has-middle a ys as') (ap (are_among as') (sym (append_assoc ys (a ∷ []) as')) ∙ among-behind (ys ++ a ∷ []) as')

pub same_itself : (as' bs : List Attribute) → as' ≡ bs → same_attributes as' bs ≡ true
same_itself as' bs e =
    ap (same_attributes as') (sym e) ∙ and-both (are_among as' as') (are_among as' as') (among-behind [] as') (among-behind [] as')
