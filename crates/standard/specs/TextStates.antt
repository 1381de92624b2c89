-- The states of text (13.2.5.1 #data-state to 13.2.5.5 #plaintext-state), escaped script data
-- (13.2.5.20 #script-data-escaped-state), and the states in which the end tag of RCDATA, RAWTEXT
-- and script data is sought (13.2.5.9 #rcdata-less-than-sign-state to
-- 13.2.5.17 #script-data-end-tag-name-state, 13.2.5.23 #script-data-escaped-less-than-sign-state to
-- 13.2.5.25 #script-data-escaped-end-tag-name-state).
use Rattle.std.specs.Prelude.{ℕ, Bool, false, List, [], ◌∷◌, ◌++◌, Option, Some, None, if◌then◌else◌, map}
use Rattle.std.specs.Char.{to_ascii_lowercase}
use Rattle.html_types.specs.Text.{same_text}
use Rattle.html_types.specs.Words.{word_text}
use Rattle.html_types.specs.declared.word.Word.{Word}
use Rattle.html_types.specs.declared.token.PartialTag.{PartialTag}
use Rattle.html_types.specs.declared.token.TagKind.TheVariants as kind
use Rattle.html_types.specs.declared.token.Token.TheVariants.{Character}
use Rattle.html_types.specs.declared.state.RawText.{RawText}
use Rattle.html_types.specs.declared.state.RawText.TheVariants.{Rcdata, ScriptData, ScriptDataEscaped}
use Rattle.html_types.specs.declared.state.TextState.{TextState}
use Rattle.html_types.specs.declared.state.TextState.TheVariants.{Data, Raw, Plaintext, RawLessThan, RawEndTagOpen, RawEndTagName, EscapeStart, EscapeStartDash, EscapedDash, EscapedDashDash, DoubleEscapeStart, DoubleEscaped, DoubleEscapedDash, DoubleEscapedDashDash, DoubleEscapedLessThan, DoubleEscapeEnd}
use Rattle.html_types.specs.declared.state.TagState.TheVariants.{TagOpen, BeforeAttributeName, SelfClosingStartTag}
use Rattle.html_types.specs.declared.reference_state.ReturnState.TheVariants as back
use Rattle.html_types.specs.declared.reference_state.ReferenceState.TheVariants as reference
use Rattle.html_types.specs.declared.class.Class.{Class}
use Rattle.html_types.specs.declared.class.Class.TheVariants.{Space, Bang, Ampersand, Hyphen, Slash, Less, Greater, Alpha, InputEnd}
use Rattle.standard.specs.Class.{shown}
use Rattle.standard.specs.Step.{Step, in_text, in_tag, in_reference, emit, to, emit_again, again, finish, new_tag, emit_tag}
use Rattle.standard.specs.EscapeStates.{escape_start_row, escape_start_dash_row, escaped_dash_row, escaped_dash_dash_row, double_escape_start_row, double_escaped_row, double_escaped_dash_row, double_escaped_dash_dash_row, double_escaped_less_than_row, double_escape_end_row}

-- 13.2.5.1 #data-state Data state
abbrev pub data_row : Class → ℕ → Step
data_row Ampersand c = to (in_reference (reference.Ampersand back.Data))
data_row Less c = to (in_tag TagOpen)
data_row InputEnd c = finish
data_row _ c = emit (Character c ∷ []) (in_text Data)

-- 13.2.5.2 #rcdata-state RCDATA, 13.2.5.3 #rawtext-state RAWTEXT, 13.2.5.4 #script-data-state
-- Script data, 13.2.5.20 #script-data-escaped-state Script data escaped state
abbrev pub raw_row : RawText → Option Word → Class → ℕ → Step
raw_row Rcdata last Ampersand c = to (in_reference (reference.Ampersand (back.Rcdata last)))
raw_row ScriptDataEscaped last Hyphen c = emit (Character c ∷ []) (in_text (EscapedDash last))
raw_row raw last Less c = to (in_text (RawLessThan raw last))
raw_row raw last InputEnd c = finish
raw_row raw last _ c = emit (Character (shown c) ∷ []) (in_text (Raw raw last))

-- 13.2.5.5 #plaintext-state PLAINTEXT state
abbrev pub plaintext_row : Class → ℕ → Step
plaintext_row InputEnd c = finish
plaintext_row _ c = emit (Character (shown c) ∷ []) (in_text Plaintext)

-- 13.2.5.9 #rcdata-less-than-sign-state RCDATA, 13.2.5.12 #rawtext-less-than-sign-state RAWTEXT,
-- 13.2.5.15 #script-data-less-than-sign-state Script data,
-- 13.2.5.23 #script-data-escaped-less-than-sign-state Script data escaped less-than sign state
abbrev pub raw_less_than_row : RawText → Option Word → Class → ℕ → Step
raw_less_than_row raw last Slash c = to (in_text (RawEndTagOpen raw last))
raw_less_than_row ScriptData last Bang c = emit (Character 60 ∷ Character 33 ∷ []) (in_text (EscapeStart last))
raw_less_than_row ScriptDataEscaped last Alpha c = emit_again (Character 60 ∷ []) (in_text (DoubleEscapeStart last []))
raw_less_than_row raw last _ c = emit_again (Character 60 ∷ []) (in_text (Raw raw last))

-- 13.2.5.10 #rcdata-end-tag-open-state RCDATA, 13.2.5.13 #rawtext-end-tag-open-state RAWTEXT,
-- 13.2.5.16 #script-data-end-tag-open-state Script data,
-- 13.2.5.24 #script-data-escaped-end-tag-open-state Script data escaped end tag open state
abbrev pub raw_end_tag_open_row : RawText → Option Word → Class → ℕ → Step
raw_end_tag_open_row raw last Alpha c = again (in_text (RawEndTagName raw last []))
raw_end_tag_open_row raw last _ c = emit_again (Character 60 ∷ Character 47 ∷ []) (in_text (Raw raw last))

-- an appropriate end tag token: its name is that of the last start tag
abbrev pub is_appropriate : Option Word → List ℕ → Bool
is_appropriate None name = false
is_appropriate (Some last) name = same_text name (word_text last)

abbrev pub in_lower_case : List ℕ → List ℕ
in_lower_case written = map to_ascii_lowercase written

abbrev pub end_tag_named : List ℕ → PartialTag
end_tag_named written = new_tag kind.End (in_lower_case written)

-- what was read is no end tag: it is text
abbrev pub no_end_tag : RawText → Option Word → List ℕ → Step
no_end_tag raw last written = emit_again (Character 60 ∷ Character 47 ∷ map Character written) (in_text (Raw raw last))

abbrev pub if_appropriate : RawText → Option Word → List ℕ → Step → Step
if_appropriate raw last written step = if is_appropriate last (in_lower_case written) then step else no_end_tag raw last written

-- 13.2.5.11 #rcdata-end-tag-name-state RCDATA, 13.2.5.14 #rawtext-end-tag-name-state RAWTEXT,
-- 13.2.5.17 #script-data-end-tag-name-state Script data,
-- 13.2.5.25 #script-data-escaped-end-tag-name-state Script data escaped end tag name state
abbrev pub raw_end_tag_name_row : RawText → Option Word → List ℕ → Class → ℕ → Step
raw_end_tag_name_row raw last written Space c = if_appropriate raw last written (to (in_tag (BeforeAttributeName (end_tag_named written))))
raw_end_tag_name_row raw last written Slash c = if_appropriate raw last written (to (in_tag (SelfClosingStartTag (end_tag_named written))))
raw_end_tag_name_row raw last written Greater c = if_appropriate raw last written (emit_tag (end_tag_named written))
raw_end_tag_name_row raw last written Alpha c = to (in_text (RawEndTagName raw last (written ++ c ∷ [])))
raw_end_tag_name_row raw last written _ c = no_end_tag raw last written

-- the rows of these states
abbrev pub text_row : TextState → Class → ℕ → Step
text_row Data = data_row
text_row (Raw raw last) = raw_row raw last
text_row Plaintext = plaintext_row
text_row (RawLessThan raw last) = raw_less_than_row raw last
text_row (RawEndTagOpen raw last) = raw_end_tag_open_row raw last
text_row (RawEndTagName raw last written) = raw_end_tag_name_row raw last written
text_row (EscapeStart last) = escape_start_row last
text_row (EscapeStartDash last) = escape_start_dash_row last
text_row (EscapedDash last) = escaped_dash_row last
text_row (EscapedDashDash last) = escaped_dash_dash_row last
text_row (DoubleEscapeStart last name) = double_escape_start_row last name
text_row (DoubleEscaped last) = double_escaped_row last
text_row (DoubleEscapedDash last) = double_escaped_dash_row last
text_row (DoubleEscapedDashDash last) = double_escaped_dash_dash_row last
text_row (DoubleEscapedLessThan last) = double_escaped_less_than_row last
text_row (DoubleEscapeEnd last name) = double_escape_end_row last name
