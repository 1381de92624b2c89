-- The tokenizer (13.2.5 #tokenization): its rows, closed under reconsuming, and folded over a text.
use Rattle.std.specs.Prelude.{ℕ, Bool, List, [], ◌∷◌, ◌++◌, if◌then◌else◌}
use Rattle.std.proofs.Common.{zero, suc}
use Rattle.html_types.specs.declared.token.Token.{Token}
use Rattle.html_types.specs.declared.state.TokState.{TokState}
use Rattle.html_types.specs.declared.state.TokState.TheVariants as group
use Rattle.html_types.specs.declared.class.Class.{Class}
use Rattle.html_types.specs.declared.class.Class.TheVariants.{InputEnd}
use Rattle.standard.specs.Class.{class_of}
use Rattle.standard.specs.Entities.{Entities}
use Rattle.standard.specs.Step.{Step}
use Rattle.standard.specs.TextStates.{text_row}
use Rattle.standard.specs.TagStates.{tag_row}
use Rattle.standard.specs.MarkStates.{mark_row}
use Rattle.standard.specs.ReferenceStates.{reference_row}

-- The table: the row of a state for a class of characters, or for the end of the input. The flag says that there is an adjusted current
-- node (13.2.4.2 #the-stack-of-open-elements) that isn't an HTML element.
abbrev pub row : Entities → Bool → TokState → Class → ℕ → Step
row es f (group.Text s) k c = text_row s k c
row es f (group.Tag s) k c = tag_row s k c
row es f (group.Mark s) k c = mark_row f s k c
row es f (group.Reference s) k c = reference_row es s k c

-- the tokens that were made, and the state
pub record Reached : Type 0 where
  pub tokens : List Token
  pub state : TokState

-- made after other tokens
abbrev pub after_tokens : List Token → Reached → Reached
after_tokens ts m = record { tokens = ts ++ m.tokens; state = m.state }

-- a character, or the end, read at most so many times
unfoldable pub settle : Entities → Bool → ℕ → TokState → Class → ℕ → Reached
settle es f zero s k c = record { tokens = []; state = s }
settle es f (suc n) s k c =
    let r = row es f s k c in
    if r.again then after_tokens r.tokens (settle es f n r.state k c) else record { tokens = r.tokens; state = r.state }

-- no row asks for more readings of one character than this
abbrev pub readings : ℕ
readings = 5

-- a character of a class, or the end
abbrev pub reading : Entities → Bool → TokState → Class → ℕ → Reached
reading es f s k c = settle es f readings s k c

-- one character
abbrev pub read : Entities → Bool → TokState → ℕ → Reached
read es f s c = reading es f s (class_of c) c

-- the end of the input
abbrev pub read_end : Entities → Bool → TokState → Reached
read_end es f s = reading es f s InputEnd 0

-- a text, with one flag for all of it
unfoldable pub feed : Entities → Bool → TokState → List ℕ → Reached
feed es f s [] = record { tokens = []; state = s }
feed es f s (c ∷ cs) = after_tokens (read es f s c).tokens (feed es f (read es f s c).state cs)

-- on from where the tokenizer is, over a text
abbrev pub onward : Entities → Bool → Reached → List ℕ → Reached
onward es f m cs = after_tokens m.tokens (feed es f m.state cs)
