-- The end tag of an element whose text is read up to it.
use Rattle.std.specs.Prelude.{◌≡◌, ◌==◌, ℕ, Bool, false, List, [], ◌∷◌, ◌++◌}
use Rattle.html_types.specs.declared.name.Name.TheVariants.{Known}
use Rattle.html_types.specs.declared.state.TokState.{TokState}
use Rattle.html_types.specs.declared.token.Token.{Token}
use Rattle.html_types.specs.declared.token.Token.TheVariants.{EndTag}
use Rattle.html_types.specs.declared.word.Word.{Word}
use Rattle.standard.specs.Class.{is_mark}
use Rattle.standard.specs.Entities.{Entities}
use Rattle.standard.specs.Step.{data_state}
use Rattle.standard.specs.Tokenizer.{feed}
use Rattle.tokenizer.specs.Whole.{has_cr}

-- Read one by one from the state, the last of the characters makes this token, those before it none, and they lead to the data state.
pub record MakesFrom (es : Entities) (s : TokState) (cs : List ℕ) (t : Token) : Type 0 where
  pub front : List ℕ
  pub last : ℕ
  pub split : cs ≡ front ++ last ∷ []
  pub silent : (foreign : Bool) → (feed es foreign s front).tokens ≡ []
  pub whole : (foreign : Bool) → feed es foreign s cs ≡ record { tokens = t ∷ []; state = data_state }

-- they are the end tag of that name, and have no CR
pub record Ends (s : TokState) (word : Word) (cs : List ℕ) : Type 0 where
  pub makes : (es : Entities) → MakesFrom es s cs (EndTag (record { name = Known word; attributes = []; self_closing = false }))
  pub no_cr : has_cr cs ≡ false

-- a `<`, and a character with which nothing begins behind it
pub record BeginsNothing (cs : List ℕ) : Type 0 where
  pub next : ℕ
  pub two : cs ≡ 60 ∷ next ∷ []
  pub plain : is_mark next ≡ false
  pub no_slash : (next == 47) ≡ false
  pub no_bang : (next == 33) ≡ false
