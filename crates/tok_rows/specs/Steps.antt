-- What code does, against a row.
use Rattle.std.specs.Prelude.{◌≡◌, List, ◌++◌}
use Rattle.html_types.specs.declared.token.Token.{Token}
use Rattle.tok_rows.specs.declared.next.Transition.{Transition}
use Rattle.standard.specs.Step.{Step}

-- the code did what the row says: the next state, whether the character is read again, and the tokens added at the end
pub record Follows (step : Step) (before after : List Token) (next : Transition) : Type 0 where
  pub state : next.state ≡ step.state
  pub again : next.again ≡ step.again
  pub tokens : after ≡ before ++ step.tokens
