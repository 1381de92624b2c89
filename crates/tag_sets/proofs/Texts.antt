-- Comparing bytes compares characters.
use Rattle.std.proofs.Common.{◌≡◌, ℕ, List, Decides, sym, ap, ◌∙◌}
use Rattle.std.specs.Prelude.{nat_eq}
use Rattle.std.specs.Str.{chars, IsUtf8}
use Rattle.std.specs.Cmp.Lexicographic.{pointwise, bytes_decides}
use Rattle.std.proofs.Math.Utf8.{encodes}
use Rattle.std.proofs.lemmas.Str.{encodes-chars}
use Rattle.std.proofs.lemmas.Bool.Decides.{same_from_decides}
use Rattle.html_types.specs.Text.{same_text}

same-from_bytes : (xs ys : List ℕ) → IsUtf8 xs → IsUtf8 ys → Decides (same_text (chars xs) (chars ys)) (xs ≡ ys)
same-from_bytes xs ys u v =
    let d = bytes_decides (chars xs) (chars ys) in
    (λ e. sym (encodes-chars xs u) ∙ ap encodes (d.0 e) ∙ encodes-chars ys v, λ e. d.1 (ap chars e))

pub same_text-chars : (xs ys : List ℕ) → IsUtf8 xs → IsUtf8 ys → pointwise nat_eq xs ys ≡ same_text (chars xs) (chars ys)
same_text-chars xs ys u v = same_from_decides _ _ (bytes_decides xs ys) (same-from_bytes xs ys u v)
