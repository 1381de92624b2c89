-- What a row of the tokenizer (13.2.5 #tokenization) gives: tokens, the next state, and whether the
-- character is read again there.
use Rattle.std.specs.Prelude.{ℕ, Bool, true, false, List, [], ◌∷◌}
use Rattle.html_types.specs.Names.{name_of}
use Rattle.html_types.specs.declared.token.Tag.{Tag}
use Rattle.html_types.specs.declared.token.PartialTag.{PartialTag}
use Rattle.html_types.specs.declared.token.TagKind.{TagKind}
use Rattle.html_types.specs.declared.token.TagKind.TheVariants as kind
use Rattle.html_types.specs.declared.token.Token.{Token}
use Rattle.html_types.specs.declared.token.Token.TheVariants as token
use Rattle.html_types.specs.declared.state.TextState.{TextState}
use Rattle.html_types.specs.declared.state.TextState.TheVariants as text_state
use Rattle.html_types.specs.declared.state.TagState.{TagState}
use Rattle.html_types.specs.declared.mark_state.MarkState.{MarkState}
use Rattle.html_types.specs.declared.reference_state.ReferenceState.{ReferenceState}
use Rattle.html_types.specs.declared.state.TokState.{TokState}
use Rattle.html_types.specs.declared.state.TokState.TheVariants as group

pub record Step : Type 0 where
  pub tokens : List Token
  pub state : TokState
  pub again : Bool

-- the states of each group
abbrev pub in_text : TextState → TokState
in_text s = group.Text s

abbrev pub in_tag : TagState → TokState
in_tag s = group.Tag s

abbrev pub in_mark : MarkState → TokState
in_mark s = group.Mark s

abbrev pub in_reference : ReferenceState → TokState
in_reference s = group.Reference s

abbrev pub data_state : TokState
data_state = in_text text_state.Data

-- switch to a state, having emitted tokens, or none
abbrev pub emit : List Token → TokState → Step
emit ts s = record { tokens = ts; state = s; again = false }

abbrev pub to : TokState → Step
to s = emit [] s

-- the same, and reconsume the character there
abbrev pub emit_again : List Token → TokState → Step
emit_again ts s = record { tokens = ts; state = s; again = true }

abbrev pub again : TokState → Step
again s = emit_again [] s

-- the end-of-file token
abbrev pub finish : Step
finish = emit (token.EndOfFile ∷ []) data_state

-- a new tag of this name
abbrev pub new_tag : TagKind → List ℕ → PartialTag
new_tag k name = record { kind = k; name = name; attributes = [] }

-- a tag that is read, as it is emitted
abbrev pub finished : Bool → PartialTag → Tag
finished closing tag = record { name = name_of tag.name; attributes = tag.attributes; self_closing = closing }

abbrev pub tag_token : TagKind → Tag → Token
tag_token kind.Start tag = token.StartTag tag
tag_token kind.End tag = token.EndTag tag

-- the tag is emitted, and data follows; `closing` says that its self-closing flag is set
abbrev pub emit_tag_as : Bool → PartialTag → Step
emit_tag_as closing tag = emit (tag_token tag.kind (finished closing tag) ∷ []) data_state

abbrev pub emit_tag : PartialTag → Step
emit_tag tag = emit_tag_as false tag
