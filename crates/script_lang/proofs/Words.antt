-- A word that is stripped off the front of a text, as characters.
use Rattle.std.proofs.Common.{◌≡◌, ℕ, ◌==◌, Bool, true, false, List, [], ◌∷◌, ◌++◌, drop, Option, Some, None, option_map, MatchOption, refl, sym, ap, ◌∙◌, eq-eqb}
use Rattle.std.specs.Str.{chars, IsUtf8}
use Rattle.std.specs.Str.Pattern.{LacksTextAt, FindsTextPrefix, StripsPrefix}
use Rattle.std.proofs.Math.Utf8.{encodes}
use Rattle.std.proofs.lemmas.Bool.{eqb-true}
use Rattle.std.proofs.lemmas.Str.{chars-append, encodes-chars, encodes-append}
use denote.Ref.{Bor}
use Rattle.serial.specs.Statements.{behind}

pub behind-append : (ws t : List ℕ) → behind ws (ws ++ t) ≡ Some t
behind-append [] t = refl
behind-append (w ∷ ws) t =
    ap (λ b. elim b as (λ _. Option (List ℕ)) [ true ↦ behind ws (ws ++ t) | false ↦ None ]) (eq-eqb w w refl) ∙ behind-append ws t

same_first : (b : Bool) (w : ℕ) (ws : List ℕ) (c : ℕ) (cs r : List ℕ) → (c == w) ≡ b → (behind ws cs ≡ Some r → cs ≡ ws ++ r)
    → (elim b as (λ _. Option (List ℕ)) [ true ↦ behind ws cs | false ↦ None ]) ≡ Some r → c ∷ cs ≡ w ∷ (ws ++ r)
same_first true w ws c cs r same next e = let first = eqb-true c w same in let rest = next e in cc
same_first false w ws c cs r same next e = absurd (cc)

pub behind-some : (ws t r : List ℕ) → behind ws t ≡ Some r → t ≡ ws ++ r
behind-some [] t r e = cc
behind-some (w ∷ ws) [] r e = absurd (cc)
behind-some (w ∷ ws) (c ∷ cs) r e = same_first (c == w) w ws c cs r refl (behind-some ws cs r) e

lacks : (ws s : List ℕ) (r : Option (List ℕ)) → IsUtf8 ws → IsUtf8 s → LacksTextAt ws s 0 → behind (chars ws) (chars s) ≡ r → None ≡ r
lacks ws s None u v h e = refl
lacks ws s (Some r) u v h e =
    absurd (h (encodes r)
    (sym (encodes-chars s v) ∙ ap encodes (behind-some (chars ws) (chars s) r e) ∙ encodes-append (chars ws) r ∙ ap (λ b. b ++ encodes r) (encodes-chars ws u)))

-- what `strip_prefix` leaves
pub behind-stripped : (ws s : List ℕ) (r : Option (Bor (List ℕ))) → IsUtf8 ws → IsUtf8 s → MatchOption r (FindsTextPrefix ws s None) (λ x. StripsPrefix (FindsTextPrefix ws) s x.now)
    → option_map (λ x. chars x.now) r ≡ behind (chars ws) (chars s)
behind-stripped ws s None u v h = lacks ws s _ u v h refl
behind-stripped ws s (Some x) u v (n, found, is, fits) =
    ap (λ t. Some (chars t)) is
    ∙ sym (behind-append (chars ws) (chars (drop n s)))
    ∙ ap (behind (chars ws)) (sym (ap chars found.1 ∙ chars-append ws (drop n s) u))
