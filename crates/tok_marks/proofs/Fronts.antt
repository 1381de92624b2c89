-- A text that begins another, by bytes and by characters.
use Rattle.std.proofs.Common.{◌≡◌, ℕ, ◌==◌, true, List, [], ◌∷◌, ◌++◌, length, drop, refl, sym, ap, ◌∙◌}
use Rattle.std.specs.Str.{chars, IsUtf8}
use Rattle.std.specs.List.{starts_with}
use Rattle.std.specs.Prelude.{nat_eq, codes}
use Rattle.std.proofs.Math.Utf8.{encodes}
use Rattle.std.proofs.lemmas.Bool.{false≢true, and_parts, and_from, eqb-true, eq-eqb}
use Rattle.std.proofs.lemmas.Bool.Decides.{same_from_decides, Decides-eqb}
use Rattle.std.proofs.lemmas.Slice.Eq.{starts_is}
use Rattle.std.proofs.lemmas.Str.{chars-append, encodes-append, encodes-chars}
use Rattle.standard.specs.Entities.{is_front}

front-append : (xs ys : List ℕ) → is_front xs (xs ++ ys) ≡ true
front-append [] ys = refl
front-append (x ∷ xs) ys = and_from (x == x) _ (eq-eqb x x refl) (front-append xs ys)

cons_same : (x y : ℕ) (xs ys : List ℕ) → x ≡ y → xs ≡ ys → (x ∷ xs) ≡ (y ∷ ys)
cons_same x y xs ys e f = cc

front-rest : (xs ys : List ℕ) → is_front xs ys ≡ true → ys ≡ xs ++ drop (length xs) ys
front-rest [] ys e = refl
front-rest (x ∷ xs) [] e = absurd (false≢true e)
front-rest (x ∷ xs) (y ∷ ys) e =
    let p = and_parts (x == y) (is_front xs ys) e in
    cons_same y x ys _ (sym (eqb-true x y p.0)) (front-rest xs ys p.1)

-- the bytes begin so where the characters do
pub starts-front : (n s : List ℕ) → IsUtf8 n → IsUtf8 s → starts_with nat_eq s n ≡ is_front (chars n) (chars s)
starts-front n s u v =
    let bytes = starts_is Decides-eqb s n (starts_with nat_eq s n) refl in
    let there : starts_with nat_eq s n ≡ true → is_front (chars n) (chars s) ≡ true =
    λ e. ap (λ t. is_front (chars n) (chars t)) (bytes.0 e) ∙ ap (λ t. is_front (chars n) t) (chars-append n _ u) ∙ front-append (chars n) _ in
    let back : is_front (chars n) (chars s) ≡ true → starts_with nat_eq s n ≡ true =
    λ e. bytes.1 _ (sym (encodes-chars s v) ∙ ap encodes (front-rest (chars n) (chars s) e) ∙ encodes-append (chars n) _ ∙ ap (λ t. t ++ encodes (drop (length (chars n)) (chars s))) (encodes-chars n u)) in
    same_from_decides _ _ (there, back) (λ e. e, λ e. e)

-- ---- the words that markup declarations begin with

pub chars_dashes : chars (codes "--") ≡ codes "--"
unfolding chars
chars_dashes = refl

pub chars_doctype : chars (codes "doctype") ≡ codes "doctype"
unfolding chars
chars_doctype = refl

pub chars_cdata : chars (codes "[CDATA[") ≡ codes "[CDATA["
unfolding chars
chars_cdata = refl

pub chars_public : chars (codes "public") ≡ codes "public"
unfolding chars
chars_public = refl

pub chars_system : chars (codes "system") ≡ codes "system"
unfolding chars
chars_system = refl
