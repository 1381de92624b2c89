-- What characters come to that make no token.
use Rattle.std.specs.Prelude.{◌≡◌, ℕ, Bool, List, [], ◌++◌, Option, Some, None}
use Rattle.html_types.specs.declared.attributes.Attribute.{Attribute}
use Rattle.standard.specs.Entities.{Entities}
use Rattle.html_types.specs.declared.state.TokState.{TokState}
use Rattle.standard.specs.Tokenizer.{feed}

-- a held value with more characters; a dropped one stays so
abbrev pub longer : Option Attribute → List ℕ → Option Attribute
longer None cs = None
longer (Some a) cs = Some (record a { value = a.value ++ cs })

-- Read one by one in a state, these characters make no token and lead to another.
abbrev pub LeadsTo : TokState → List ℕ → TokState → Type 0
LeadsTo s cs t = (es : Entities) (foreign : Bool) → feed es foreign s cs ≡ record { tokens = []; state = t }
