-- One character less.
use Rattle.std.proofs.Common.{◌≡◌, ℕ, ◌+◌, ◌-◌, ◌≤◌, List, [], ◌++◌, length, drop, sym, ap, ◌∙◌, subst, arith, encode_utf8}
use Rattle.std.specs.Str.{chars, IsUtf8}
use Rattle.std.proofs.lemmas.List.{drop-drop, nil_from_length}
use Rattle.std.proofs.lemmas.Str.{chars-nil, chars_past_char, IsUtf8-past_char}

-- the text is what stands behind the first characters of a whole
pub record IsBehind (whole text : List ℕ) (count : ℕ) : Type 0 where
  pub utf8 : IsUtf8 text
  pub rest : chars text ≡ drop count (chars whole)

pub IsBehind-none : (whole text : List ℕ) → IsUtf8 whole → text ≡ whole → IsBehind whole text 0
IsBehind-none whole text u e = record { utf8 = subst IsUtf8 (sym e) u; rest = ap chars e }

pub IsBehind-more : (whole text rest : List ℕ) (count c : ℕ) → IsBehind whole text count → text ≡ encode_utf8 c ++ rest → IsBehind whole rest (count + 1)
IsBehind-more whole text rest count c is e = record {
  utf8 = IsUtf8-past_char text rest c is.utf8 e;
  rest = ap (drop 1) (sym (chars_past_char text rest c is.utf8 e) ∙ is.rest) ∙ drop-drop 1 count (chars whole);
}

pub IsBehind-all : (whole text same : List ℕ) (count all : ℕ) → IsBehind whole text count → same ≡ text → count ≡ all → chars same ≡ drop all (chars whole)
IsBehind-all whole text same count all is e n = ap chars e ∙ is.rest ∙ ap (λ k. drop k (chars whole)) n

drop-nil : (n : ℕ) → drop {A = ℕ} n [] ≡ []
drop-nil n = nil_from_length (drop n []) (grind (arith))

-- behind all of its characters nothing stands
pub none-behind : (whole text : List ℕ) (count more : ℕ) → IsBehind whole text count → length text ≡ 0 → count ≤ more → chars [] ≡ drop more (chars whole)
none-behind whole text count more is empty h =
    let gone : drop count (chars whole) ≡ [] = sym is.rest ∙ ap chars (nil_from_length text empty) ∙ chars-nil in
    let sum : count + (more - count) ≡ more = omega (arith, h) in
    chars-nil ∙ sym (drop-nil (more - count)) ∙ ap (drop (more - count)) (sym gone) ∙ drop-drop (more - count) count (chars whole) ∙ ap (λ n. drop n (chars whole)) sum
