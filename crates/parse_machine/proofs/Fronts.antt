-- The front of a text that was parsed, and what is left behind it.
use Rattle.std.proofs.Common.{◌≡◌, ◌<◌, ◌≢◌, ℕ, zero, suc, List, [], ◌∷◌, ◌++◌, length, refl, sym, ap, ◌∙◌, take, drop, take-append-drop, length-drop, arith}
use Rattle.std.specs.Str.{chars, IsCharBoundary, IsUtf8}
use Rattle.std.proofs.lemmas.Str.{IsUtf8-take, chars-append, chars-nil}
use Rattle.std.proofs.lemmas.List.{append_cancel_left}
use Rattle.html_types.specs.declared.instruction.Stop.TheVariants as stop
use Rattle.standard.specs.Entities.{Entities}
use Rattle.standard.specs.Parser.{Parser, Took, took, take_character, Parsed, and_rest, parse}

-- the rest of a text, in characters
pub rest-chars : (bs : List ℕ) (used k : ℕ) → IsUtf8 bs → IsCharBoundary bs used → chars (take used bs) ≡ take k (chars bs) → chars (drop used bs) ≡ drop k (chars bs)
rest-chars bs used k text boundary front =
    append_cancel_left (chars (take used bs)) (chars (drop used bs)) (drop k (chars bs))
    (sym (chars-append (take used bs) (drop used bs) (IsUtf8-take bs used text boundary))
    ∙ (ap chars (take-append-drop used bs)
    ∙ (sym (take-append-drop k (chars bs)) ∙ ap (λ xs. xs ++ drop k (chars bs)) (sym front))))

-- a stop is behind a character
pub some-used : (k : Took) (f : Parser → Parsed) → 0 < (and_rest k f).used
some-used (took ops p stop.InputEnd) f = omega arith
some-used (took ops p (stop.Script i)) f = omega arith
some-used (took ops p stop.Deep) f = omega arith

pub none-used : (es : Entities) (p : Parser) (x : List ℕ) → [] ≡ take (parse es p x).used x → (parse es p x).stop ≡ stop.InputEnd
unfolding parse
none-used es p [] h = refl
none-used es p (c ∷ cs) h = absurd (no_front _ (some-used (take_character es p c) (λ p'. parse es p' cs)) h)
  where
    no_front : (n : ℕ) → 0 < n → [] ≡ take n (c ∷ cs) → ⊥
    no_front zero lt e = omega arith
    no_front (suc n) lt e = absurd (cc e)

-- an empty text stops nothing
pub stop-some : (es : Entities) (p : Parser) (x : List ℕ) → (parse es p x).stop ≢ stop.InputEnd → x ≢ []
unfolding parse
stop-some es p [] h = λ e. absurd (h refl)
stop-some es p (c ∷ cs) h = λ e. absurd (cc e)

shorter : (n : ℕ) (bytes : List ℕ) → 0 < n → bytes ≢ [] → length (drop n bytes) < length bytes
shorter n [] lt some = absurd (some refl)
shorter n (c ∷ cs) lt some = omega (arith, length-drop n (c ∷ cs))

-- so many bytes were used, since so many characters were
pub bytes-used : (n k : ℕ) (text : List ℕ) → chars (take n text) ≡ take k (chars text) → ([] ≡ take k (chars text) → ⊥) → 0 < n
bytes-used zero k text q h = absurd (h (sym chars-nil ∙ q))
bytes-used (suc n) k text q h = omega arith

-- what is left behind a stop is less
pub less-left : (es : Entities) (p : Parser) (n : ℕ) (text : List ℕ) → chars (take n text) ≡ take (parse es p (chars text)).used (chars text) → (parse es p (chars text)).stop ≢ stop.InputEnd
    → length (drop n text) < length text
less-left es p n text front stops =
    shorter n text (bytes-used n (parse es p (chars text)).used text front (λ h. stops (none-used es p (chars text) h)))
    (λ none. stop-some es p (chars text) stops (ap chars none ∙ chars-nil))
