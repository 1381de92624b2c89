-- Laws of `feed` and `onward`: a text character by character, and in parts.
use Rattle.std.proofs.Common.{◌≡◌, ℕ, Bool, List, [], ◌∷◌, ◌++◌, refl, sym, ap, ◌∙◌, append_assoc, append-nil}
use Rattle.html_types.specs.declared.token.Token.{Token}
use Rattle.html_types.specs.declared.state.TokState.{TokState}
use Rattle.standard.specs.Entities.{Entities}
use Rattle.standard.specs.Tokenizer.{Reached, after_tokens, read, feed, onward}

after-after : (xs ys : List Token) (m : Reached) → after_tokens (xs ++ ys) m ≡ after_tokens xs (after_tokens ys m)
after-after xs ys m = ap (λ (l : List Token). record { tokens = l; state = m.state }) (append_assoc xs ys m.tokens)

-- a text and then another
pub feed-append : (es : Entities) (foreign : Bool) (s : TokState) (xs ys : List ℕ) → feed es foreign s (xs ++ ys) ≡ onward es foreign (feed es foreign s xs) ys
unfolding feed
feed-append es foreign s [] ys = refl
feed-append es foreign s (c ∷ cs) ys =
    let now = read es foreign s c in
    let rest = feed es foreign now.state cs in
    ap (after_tokens now.tokens) (feed-append es foreign now.state cs ys) ∙ sym (after-after now.tokens rest.tokens (feed es foreign rest.state ys))

-- one text and then another, from where the tokenizer is
pub onward-append : (es : Entities) (foreign : Bool) (m : Reached) (xs ys : List ℕ) → onward es foreign m (xs ++ ys) ≡ onward es foreign (onward es foreign m xs) ys
onward-append es foreign m xs ys =
    let first = feed es foreign m.state xs in
    ap (after_tokens m.tokens) (feed-append es foreign m.state xs ys) ∙ sym (after-after m.tokens first.tokens (feed es foreign first.state ys))

-- one character
pub onward-one : (es : Entities) (foreign : Bool) (m : Reached) (c : ℕ) → onward es foreign m (c ∷ []) ≡ after_tokens m.tokens (read es foreign m.state c)
unfolding feed
onward-one es foreign m c =
    let now = read es foreign m.state c in
    ap (λ (l : List Token). record { tokens = m.tokens ++ l; state = now.state }) (append-nil now.tokens)

append-none : (xs ys : List Token) → xs ++ ys ≡ [] → xs ≡ []
append-none [] ys e = refl
append-none (x ∷ xs) ys e = absurd (cc)

-- what a front of a text makes comes first: where the text makes no token, its front makes none
pub onward-front : (es : Entities) (foreign : Bool) (m : Reached) (xs ys : List ℕ) → (onward es foreign m (xs ++ ys)).tokens ≡ [] → (onward es foreign m xs).tokens ≡ []
onward-front es foreign m xs ys e =
    let first = onward es foreign m xs in
    append-none first.tokens (feed es foreign first.state ys).tokens (ap (λ (x : Reached). x.tokens) (sym (onward-append es foreign m xs ys)) ∙ e)
