-- What the code did in a row, against `settle`.
use Rattle.std.proofs.Common.{◌≡◌, ℕ, ◌-◌, ◌<◌, Bool, true, false, List, ◌++◌, Result, Ok, Err, IfOk, sym, ap, ◌∙◌, append_assoc}
use Rattle.html_types.specs.declared.memory.NoMemory.{NoMemory}
use Rattle.html_types.specs.declared.token.Token.{Token}
use Rattle.html_types.specs.declared.state.TokState.{TokState}
use Rattle.html_types.specs.declared.class.Class.{Class}
use Rattle.tok_rows.specs.declared.next.Transition.{Transition}
use Rattle.tok_rows.specs.Steps.{Follows}
use Rattle.standard.specs.Entities.{Entities}
use Rattle.standard.specs.Tokenizer.{Reached, row, settle}
use Rattle.tokenizer_laws.proofs.SettleLemmas.{settle-again, settle-done}
use Rattle.tokenizer.specs.Adds.{Adds}

-- the code did a row, and is done
pub Adds-from_last : {before after : List Token} {next : Transition} (es : Entities) (foreign : Bool) (n : ℕ) (s : TokState) (k : Class) (c : ℕ) → 0 < n → Follows (row es foreign s k c) before after next → next.again ≡ false → Adds (settle es foreign n s k c) before after next.state
Adds-from_last {before} es foreign n s k c h f a =
    let q = settle-done es foreign n s k c h (sym f.again ∙ a) in
    record {
      state = f.state ∙ ap (λ (m : Reached). m.state) (sym q);
      tokens = f.tokens ∙ ap (λ (m : Reached). before ++ m.tokens) (sym q);
    }

-- the code did a row, and read again
Adds-from_more : {before middle after : List Token} {next : Transition} {now : TokState} (es : Entities) (foreign : Bool) (n : ℕ) (s : TokState) (k : Class) (c : ℕ) → 0 < n → Follows (row es foreign s k c) before middle next → next.again ≡ true → Adds (settle es foreign (n - 1) next.state k c) middle after now → Adds (settle es foreign n s k c) before after now
Adds-from_more {before} {middle} {next = next} es foreign n s k c h f a x =
    let q = settle-again es foreign n s k c h (sym f.again ∙ a) in
    let rest = settle es foreign (n - 1) (row es foreign s k c).state k c in
    let same : settle es foreign (n - 1) next.state k c ≡ rest = ap (λ (t : TokState). settle es foreign (n - 1) t k c) f.state in
    record {
      state = x.state ∙ ap (λ (m : Reached). m.state) same ∙ ap (λ (m : Reached). m.state) (sym q);
      tokens = x.tokens ∙ ap (λ (m : Reached). middle ++ m.tokens) same ∙ ap (λ (l : List Token). l ++ rest.tokens) f.tokens
          ∙ append_assoc before (row es foreign s k c).tokens rest.tokens ∙ ap (λ (m : Reached). before ++ m.tokens) (sym q);
    }

pub IfOk-from_more : {before middle : List Token} {next : Transition} (after : List Token) (r : Result TokState NoMemory) (es : Entities) (foreign : Bool) (n : ℕ) (s : TokState) (k : Class) (c : ℕ) → 0 < n → Follows (row es foreign s k c) before middle next → next.again ≡ true → IfOk r (Adds (settle es foreign (n - 1) next.state k c) middle after) → IfOk r (Adds (settle es foreign n s k c) before after)
IfOk-from_more after (Ok now) es foreign n s k c h f a x = Adds-from_more es foreign n s k c h f a x
IfOk-from_more after (Err e) es foreign n s k c h f a x = tt
