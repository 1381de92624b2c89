-- The names that the rules speak of: their texts are ASCII and tell them apart, and so does `==`.
use Rattle.std.proofs.Common.{◌≡◌, Decides, Bool, true, false, true≢false, ◌||◌, cond, List, [], ◌∷◌, ℕ, suc, ◌+◌, ◌<◌, ◌≤◌, length, get_or, drop, drop-cons, drop_of_length-le, add-one, refl, sym, ap, subst, ◌∙◌, rules}
use Rattle.std.specs.Prelude.{Option, None, Some, IsTrue, is_some, slice_get}
use Rattle.std.specs.List.{list_any}
use Rattle.std.specs.Str.{chars, IsUtf8}
use Rattle.std.specs.Cmp.Lexicographic.{bytes_decides}
use Rattle.std.proofs.Math.Utf8.{encodes}
use Rattle.std.proofs.lemmas.Str.{encodes-chars}
use denote.Enum.Bare.{same_true, true_same}
use Rattle.html_types.specs.Text.{same_text}
use Rattle.html_types.specs.Words.{same_word, word_text, words}
use Rattle.html_types.specs.Names.{known_word, word_among}
use Rattle.html_types.specs.contracts.word.Word.{the_type}
use Rattle.html_types.specs.declared.word.Word.{Word}
use Rattle.html_types.specs.declared.word.Word.TheVariants as word

pub word_decides : (v w : Word) → Decides (same_word v w) (v ≡ w)
word_decides v w = (same_true the_type (search rules) v w, true_same the_type v w)

pub chars_word : (w : Word) → chars (word_text w) ≡ word_text w
unfolding chars
chars_word word.A = refl
chars_word _ = refl

encodes_word : (w : Word) → encodes (word_text w) ≡ word_text w
unfolding lib.Utf8.encode
encodes_word word.A = refl
encodes_word _ = refl

-- each word is known by its text
pub word_known : (w : Word) → known_word (word_text w) ≡ Some w
word_known word.A = refl
word_known _ = refl

-- bytes that are a word's text
pub word_found : (t : List ℕ) (w : Word) → t ≡ word_text w → known_word (chars t) ≡ Some w
word_found t w e = ap (λ s. known_word (chars s)) e ∙ ap known_word (chars_word w) ∙ word_known w

other : (a : Bool) (w : Word) (o : Option Word) → (a ≡ true → ⊥) → o ≡ None → cond a (Some w) o ≡ None
other true w o not e = absurd (not refl)
other false w o not e = e

none_among : (ws : List Word) (t : List ℕ) → ((w : Word) → t ≡ word_text w → ⊥) → word_among ws t ≡ None
none_among [] t not = refl
none_among (w ∷ ws) t not = other (same_text t (word_text w)) w (word_among ws t) (λ e. not w ((bytes_decides t (word_text w)).0 e)) (none_among ws t not)

-- bytes that are no word's text
pub no_word : (t : List ℕ) → IsUtf8 t → ((w : Word) → t ≡ word_text w → ⊥) → known_word (chars t) ≡ None
no_word t u not = none_among words (chars t) (λ w e. not w (sym (encodes-chars t u) ∙ ap encodes e ∙ encodes_word w))

has_letter : (w : Word) → is_some (slice_get (word_text w) 0) ≡ true
has_letter word.A = refl
has_letter _ = refl

-- no bytes are no word's text
pub empty_no_word : (t : List ℕ) → IsUtf8 t → None ≡ slice_get t 0 → known_word (chars t) ≡ None
empty_no_word t u first = no_word t u (λ w e. true≢false (sym (has_letter w) ∙ ap (λ s. is_some (slice_get s 0)) (sym e) ∙ ap is_some (sym first)))

second : (a b : Bool) → (a || b) ≡ true → (a ≡ true → ⊥) → b ≡ true
second true b e not = absurd (not refl)
second false b e not = e

-- a word among those left that isn't the next one
pub word_behind : (w v : Word) (ws : List Word) (i : ℕ) → i < length ws → IsTrue (list_any (same_word w) (drop i ws)) → (w ≡ get_or ws i v → ⊥) → IsTrue (list_any (same_word w) (drop (i + 1) ws))
word_behind w v ws i h e not =
    let here : IsTrue (list_any (same_word w) (get_or ws i v ∷ drop (suc i) ws)) = subst (λ l. IsTrue (list_any (same_word w) l)) (drop-cons ws i v h) e in
    rw (add-one i) (second (same_word w (get_or ws i v)) (list_any (same_word w) (drop (suc i) ws)) here (λ s. not ((word_decides w (get_or ws i v)).0 s)))

pub none_left : (w : Word) (ws : List Word) (i : ℕ) → length ws ≤ i → IsTrue (list_any (same_word w) (drop i ws)) → ⊥
none_left w ws i h e = true≢false (sym e ∙ ap (list_any (same_word w)) (drop_of_length-le ws h))
