-- Two texts read side by side, a character at a time: what is left of them is the same, with the first in lower case, where they are.
use Rattle.std.proofs.Common.{◌≡◌, ◌∙◌, ℕ, Bool, true, false, List, [], ◌∷◌, ◌++◌, ◌&&◌, map, get_or, length, refl, sym, ap}
use Rattle.std.specs.Prelude.{Option, is_some, not, slice_get, encode_utf8}
use Rattle.std.specs.Char.{to_ascii_lowercase}
use Rattle.std.specs.Str.{chars, IsUtf8}
use Rattle.std.specs.Cmp.Lexicographic.{bytes_decides}
use Rattle.std.proofs.lemmas.Str.{chars_past_char}
use Rattle.std.proofs.StrCases.{chars_of_empty}
use Rattle.html_types.specs.Text.{same_text}

abbrev lowered : List ℕ → List ℕ
lowered = map to_ascii_lowercase

not_true : (b : Bool) → (b ≡ true → ⊥) → false ≡ b
not_true true h = absurd (h refl)
not_true false h = refl

unlike : (c d : ℕ) (xs ys : List ℕ) → (d ≡ c → ⊥) → false ≡ same_text (c ∷ xs) (d ∷ ys)
unlike c d xs ys h = not_true _ (λ e. h (sym (ap (λ l. get_or l 0 0) ((bytes_decides (c ∷ xs) (d ∷ ys)).0 e))))

first : (a b : Bool) → (a && true) ≡ true → (a && b) ≡ b
first true b e = refl
first false b e = absurd (cc)

alike : (c d : ℕ) (xs ys : List ℕ) → d ≡ c → same_text (c ∷ xs) (d ∷ ys) ≡ same_text xs ys
alike c d xs ys e = first _ _ ((bytes_decides (c ∷ []) (d ∷ [])).1 (ap (λ x. x ∷ []) (sym e)))

at_end : (o : Option ℕ) (r : Bool) (ys : List ℕ) → o ≡ slice_get ys 0 → is_some o ≡ not r → r ≡ same_text [] ys
at_end o true [] e test = refl
at_end o false [] e test = absurd (cc)
at_end o true (y ∷ ys) e test = absurd (cc)
at_end o false (y ∷ ys) e test = refl

both : (it rest its rests : List ℕ) → chars it ≡ its → chars rest ≡ rests → same_text (lowered its) rests ≡ same_text (lowered (chars it)) (chars rest)
both it rest its rests e f = ap (λ l. same_text (lowered l) rests) (sym e) ∙ ap (same_text (lowered (chars it))) (sym f)

-- characters that differ
pub differ : (it rest its rests : List ℕ) (c d r : ℕ) (whole : Bool) → IsUtf8 it → IsUtf8 rest → it ≡ encode_utf8 c ++ its → rest ≡ encode_utf8 d ++ rests
    → r ≡ to_ascii_lowercase c → (d ≡ r → ⊥) → same_text (lowered (chars it)) (chars rest) ≡ whole → false ≡ whole
differ it rest its rests c d r whole u v e f lower h so_far =
    unlike (to_ascii_lowercase c) d (lowered (chars its)) (chars rests) (λ same. h (same ∙ sym lower)) ∙ both it rest _ _ (chars_past_char it its c u e) (chars_past_char rest rests d v f) ∙ so_far

-- characters that are the same
pub agree : (it rest its rests : List ℕ) (c d r : ℕ) (whole : Bool) → IsUtf8 it → IsUtf8 rest → it ≡ encode_utf8 c ++ its → rest ≡ encode_utf8 d ++ rests
    → r ≡ to_ascii_lowercase c → d ≡ r → same_text (lowered (chars it)) (chars rest) ≡ whole → same_text (lowered (chars its)) (chars rests) ≡ whole
agree it rest its rests c d r whole u v e f lower same so_far =
    sym (alike (to_ascii_lowercase c) d (lowered (chars its)) (chars rests) (same ∙ lower)) ∙ both it rest _ _ (chars_past_char it its c u e) (chars_past_char rest rests d v f) ∙ so_far

-- the second ends first
pub shorter : (it rest its : List ℕ) (c : ℕ) (whole : Bool) → IsUtf8 it → it ≡ encode_utf8 c ++ its → length rest ≡ 0
    → same_text (lowered (chars it)) (chars rest) ≡ whole → false ≡ whole
shorter it rest its c whole u e none so_far = both it rest _ [] (chars_past_char it its c u e) (chars_of_empty rest none) ∙ so_far

-- the first is at its end
pub ended : (it rest : List ℕ) (o : Option ℕ) (r whole : Bool) → length it ≡ 0 → o ≡ slice_get (chars rest) 0 → is_some o ≡ not r
    → same_text (lowered (chars it)) (chars rest) ≡ whole → r ≡ whole
ended it rest o r whole none e test so_far = at_end o r (chars rest) e test ∙ both it rest [] _ (chars_of_empty it none) refl ∙ so_far
