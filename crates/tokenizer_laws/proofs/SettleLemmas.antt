-- The equations of `settle`.
use Rattle.std.proofs.Common.{◌≡◌, ℕ, zero, suc, ◌-◌, ◌<◌, Bool, true, false, List, [], refl, ap, ◌∙◌, arith}
use Rattle.html_types.specs.declared.token.Token.{Token}
use Rattle.html_types.specs.declared.state.TokState.{TokState}
use Rattle.html_types.specs.declared.class.Class.{Class}
use Rattle.standard.specs.Entities.{Entities}
use Rattle.standard.specs.Step.{Step, emit}
use Rattle.standard.specs.Tokenizer.{after_tokens, row, settle, readings, reading}

pub settle-none : (es : Entities) (foreign : Bool) (s : TokState) (k : Class) (c : ℕ) → settle es foreign 0 s k c ≡ record { tokens = []; state = s }
unfolding settle
settle-none es foreign s k c = refl

-- the row asks for the character again
pub settle-again : (es : Entities) (foreign : Bool) (n : ℕ) (s : TokState) (k : Class) (c : ℕ) → 0 < n → (row es foreign s k c).again ≡ true → settle es foreign n s k c ≡ after_tokens (row es foreign s k c).tokens (settle es foreign (n - 1) (row es foreign s k c).state k c)
unfolding settle
settle-again es foreign zero s k c h e = absurd (omega arith)
settle-again es foreign (suc n) s k c h e =
    let same : suc n - 1 ≡ n = omega arith in
    rw (e, same) refl

-- the row is done with it
pub settle-done : (es : Entities) (foreign : Bool) (n : ℕ) (s : TokState) (k : Class) (c : ℕ) → 0 < n → (row es foreign s k c).again ≡ false → settle es foreign n s k c ≡ record { tokens = (row es foreign s k c).tokens; state = (row es foreign s k c).state }
unfolding settle
settle-done es foreign zero s k c h e = absurd (omega arith)
settle-done es foreign (suc n) s k c h e = rw e refl

-- a row that emits these tokens and is done
pub reading-emit : (es : Entities) (foreign : Bool) (s t : TokState) (ts : List Token) (k : Class) (c : ℕ) → row es foreign s k c ≡ emit ts t → reading es foreign s k c ≡ record { tokens = ts; state = t }
reading-emit es foreign s t ts k c e =
    settle-done es foreign readings s k c (omega arith) (ap (λ (r : Step). r.again) e) ∙ ap (λ (r : Step). record { tokens = r.tokens; state = r.state }) e
