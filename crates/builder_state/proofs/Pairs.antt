-- Attributes are the same where their texts are.
use Rattle.std.proofs.Common.{◌≡◌, ◌∙◌, ℕ, Bool, true, false, ◌&&◌, ◌||◌, List, [], ◌∷◌, ◌++◌, append_assoc, refl, sym, ap}
use Rattle.std.specs.Prelude.{nat_eq}
use Rattle.std.specs.Cmp.Lexicographic.{bytes_decides}
use Rattle.std.proofs.lemmas.Bool.Decides.{same_from_decides}
use Rattle.html_types.specs.Text.{same_text}
use Rattle.html_types.specs.Attributes.{has_name}
use Rattle.html_types.specs.declared.attributes.Attribute.{Attribute}
use Rattle.standard.specs.Formatting.{same_attribute, has_attribute, are_among}
use Rattle.builder_state.specs.Pairs.{marked, pair_text, pairs_of, all_found}

and_assoc : (a b c : Bool) → (a && (b && c)) ≡ ((a && b) && c)
and_assoc true b c = refl
and_assoc false b c = refl

pub same-either_way : (xs ys : List ℕ) → same_text xs ys ≡ same_text ys xs
same-either_way xs ys =
    let there = bytes_decides xs ys in
    let back = bytes_decides ys xs in
    same_from_decides (same_text xs ys) (same_text ys xs) there (λ e. sym (back.0 e), λ e. back.1 (sym e))

same-pairs : (xs ys v w : List ℕ) → same_text (marked xs ++ 1 ∷ v) (marked ys ++ 1 ∷ w) ≡ (same_text xs ys && same_text v w)
same-pairs [] [] v w = refl
same-pairs [] (y ∷ ys) v w = refl
same-pairs (x ∷ xs) [] v w = refl
same-pairs (x ∷ xs) (y ∷ ys) v w = ap (λ r. nat_eq x y && r) (same-pairs xs ys v w) ∙ and_assoc (nat_eq x y) (same_text xs ys) (same_text v w)

same-attribute : (a b : Attribute) → same_text (pair_text b) (pair_text a) ≡ same_attribute a b
same-attribute a b = same-either_way (pair_text b) (pair_text a) ∙ same-pairs a.name b.name a.value b.value

has-pair : (a : Attribute) (bs : List Attribute) → has_name (pair_text a) (pairs_of bs) ≡ has_attribute a bs
has-pair a [] = refl
has-pair a (b ∷ bs) = ap (λ r. r || has_name (pair_text a) (pairs_of bs)) (same-attribute a b) ∙ ap (λ r. same_attribute a b || r) (has-pair a bs)

pub found_among : (as' bs : List Attribute) → all_found (pairs_of bs) as' ≡ are_among as' bs
found_among [] bs = refl
found_among (a ∷ as') bs = ap (λ r. r && all_found (pairs_of bs) as') (has-pair a bs) ∙ ap (λ r. has_attribute a bs && r) (found_among as' bs)

-- the text, as it is put together
pub pair-read : (read name value front behind whole : List ℕ) → read ≡ name → front ≡ marked read → behind ≡ front ++ 1 ∷ [] → whole ≡ behind ++ value → whole ≡ marked name ++ 1 ∷ value
pair-read read name value front behind whole all so_far one rest =
    rest ∙ ap (λ l. l ++ value) (one ∙ ap (λ l. l ++ 1 ∷ []) (so_far ∙ ap marked all)) ∙ append_assoc (marked name) (1 ∷ []) value
