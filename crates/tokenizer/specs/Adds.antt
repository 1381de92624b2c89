-- What code does, against a character that was read.
use Rattle.std.specs.Prelude.{◌≡◌, List, ◌++◌}
use Rattle.html_types.specs.declared.token.Token.{Token}
use Rattle.html_types.specs.declared.state.TokState.{TokState}
use Rattle.standard.specs.Tokenizer.{Reached}

-- the code came to the state `now`, and added these tokens at the end
pub record Adds (reached : Reached) (before after : List Token) (now : TokState) : Type 0 where
  pub state : now ≡ reached.state
  pub tokens : after ≡ before ++ reached.tokens
