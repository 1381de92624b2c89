-- The states of tags (13.2.5.6 #tag-open-state to 13.2.5.8 #tag-name-state) and of attributes
-- (13.2.5.32 #before-attribute-name-state to 13.2.5.40 #self-closing-start-tag-state).
use Rattle.std.specs.Prelude.{ℕ, true, List, [], ◌∷◌, ◌++◌, Option, Some, None, if◌then◌else◌}
use Rattle.html_types.specs.Attributes.{has_name}
use Rattle.html_types.specs.declared.attributes.Attribute.{Attribute}
use Rattle.html_types.specs.declared.token.PartialTag.{PartialTag}
use Rattle.html_types.specs.declared.token.TagKind.TheVariants as kind
use Rattle.html_types.specs.declared.token.Quote.{Quote}
use Rattle.html_types.specs.declared.token.Quote.TheVariants.{Single, Double}
use Rattle.html_types.specs.declared.token.Token.TheVariants.{Character, EndOfFile}
use Rattle.html_types.specs.declared.state.TagState.{TagState}
use Rattle.html_types.specs.declared.state.TagState.TheVariants.{TagOpen, EndTagOpen, TagName, BeforeAttributeName, AttributeName, AfterAttributeName, BeforeAttributeValue, AttributeValueQuoted, AttributeValueUnquoted, AfterAttributeValueQuoted, SelfClosingStartTag}
use Rattle.html_types.specs.declared.mark_state.MarkState.TheVariants.{MarkupDeclarationOpen, BogusComment}
use Rattle.html_types.specs.declared.reference_state.ReturnState.TheVariants as back
use Rattle.html_types.specs.declared.reference_state.ReferenceState.TheVariants as reference
use Rattle.html_types.specs.declared.class.Class.{Class}
use Rattle.html_types.specs.declared.class.Class.TheVariants.{Space, Bang, DoubleQuote, Ampersand, SingleQuote, Slash, Equals, Greater, Question, Alpha, InputEnd}
use Rattle.standard.specs.Class.{shown, name_char}
use Rattle.standard.specs.Step.{Step, in_tag, in_mark, in_reference, data_state, emit, to, emit_again, again, finish, new_tag, emit_tag, emit_tag_as}

-- one more character in a tag's name
abbrev pub longer_name : PartialTag → ℕ → PartialTag
longer_name tag c = record tag { name = tag.name ++ name_char c ∷ [] }

-- a tag with the attribute that was held, if one was
abbrev pub with_attribute : PartialTag → Option Attribute → PartialTag
with_attribute tag None = tag
with_attribute tag (Some a) = record tag { attributes = tag.attributes ++ a ∷ [] }

-- one more character in a held value
abbrev pub longer_value : Option Attribute → ℕ → Option Attribute
longer_value None c = None
longer_value (Some a) c = Some (record a { value = a.value ++ shown c ∷ [] })

-- the name that was read, or none where the tag has it: that attribute is dropped
abbrev pub fresh : PartialTag → List ℕ → Option (List ℕ)
fresh tag name = if has_name name tag.attributes then None else Some name

-- an attribute with an empty value
abbrev pub bare : Option (List ℕ) → Option Attribute
bare None = None
bare (Some name) = Some (record { name = name; value = [] })

-- the tag with the attribute whose name is held, with an empty value
abbrev pub with_bare : PartialTag → Option (List ℕ) → PartialTag
with_bare tag held = with_attribute tag (bare held)

-- 13.2.5.6 #tag-open-state Tag open state
abbrev pub tag_open_row : Class → ℕ → Step
tag_open_row Bang c = to (in_mark (MarkupDeclarationOpen []))
tag_open_row Slash c = to (in_tag EndTagOpen)
tag_open_row Alpha c = again (in_tag (TagName (new_tag kind.Start [])))
tag_open_row Question c = again (in_mark (BogusComment []))
tag_open_row InputEnd c = emit (Character 60 ∷ EndOfFile ∷ []) data_state
tag_open_row _ c = emit_again (Character 60 ∷ []) data_state

-- 13.2.5.7 #end-tag-open-state End tag open state
abbrev pub end_tag_open_row : Class → ℕ → Step
end_tag_open_row Alpha c = again (in_tag (TagName (new_tag kind.End [])))
end_tag_open_row Greater c = to data_state
end_tag_open_row InputEnd c = emit (Character 60 ∷ Character 47 ∷ EndOfFile ∷ []) data_state
end_tag_open_row _ c = again (in_mark (BogusComment []))

-- 13.2.5.8 #tag-name-state Tag name state
abbrev pub tag_name_row : PartialTag → Class → ℕ → Step
tag_name_row tag Space c = to (in_tag (BeforeAttributeName tag))
tag_name_row tag Slash c = to (in_tag (SelfClosingStartTag tag))
tag_name_row tag Greater c = emit_tag tag
tag_name_row tag InputEnd c = finish
tag_name_row tag _ c = to (in_tag (TagName (longer_name tag c)))

-- 13.2.5.32 #before-attribute-name-state Before attribute name state
abbrev pub before_attribute_name_row : PartialTag → Class → ℕ → Step
before_attribute_name_row tag Space c = to (in_tag (BeforeAttributeName tag))
before_attribute_name_row tag Slash c = again (in_tag (AfterAttributeName tag None))
before_attribute_name_row tag Greater c = again (in_tag (AfterAttributeName tag None))
before_attribute_name_row tag InputEnd c = again (in_tag (AfterAttributeName tag None))
before_attribute_name_row tag Equals c = to (in_tag (AttributeName tag (61 ∷ [])))
before_attribute_name_row tag _ c = again (in_tag (AttributeName tag []))

-- 13.2.5.33 #attribute-name-state Attribute name state
abbrev pub attribute_name_row : PartialTag → List ℕ → Class → ℕ → Step
attribute_name_row tag name Space c = again (in_tag (AfterAttributeName tag (fresh tag name)))
attribute_name_row tag name Slash c = again (in_tag (AfterAttributeName tag (fresh tag name)))
attribute_name_row tag name Greater c = again (in_tag (AfterAttributeName tag (fresh tag name)))
attribute_name_row tag name InputEnd c = again (in_tag (AfterAttributeName tag (fresh tag name)))
attribute_name_row tag name Equals c = to (in_tag (BeforeAttributeValue tag (fresh tag name)))
attribute_name_row tag name _ c = to (in_tag (AttributeName tag (name ++ name_char c ∷ [])))

-- 13.2.5.34 #after-attribute-name-state After attribute name state
abbrev pub after_attribute_name_row : PartialTag → Option (List ℕ) → Class → ℕ → Step
after_attribute_name_row tag held Space c = to (in_tag (AfterAttributeName tag held))
after_attribute_name_row tag held Slash c = to (in_tag (SelfClosingStartTag (with_bare tag held)))
after_attribute_name_row tag held Equals c = to (in_tag (BeforeAttributeValue tag held))
after_attribute_name_row tag held Greater c = emit_tag (with_bare tag held)
after_attribute_name_row tag held InputEnd c = finish
after_attribute_name_row tag held _ c = again (in_tag (AttributeName (with_bare tag held) []))

-- 13.2.5.35 #before-attribute-value-state Before attribute value state
abbrev pub before_attribute_value_row : PartialTag → Option (List ℕ) → Class → ℕ → Step
before_attribute_value_row tag held Space c = to (in_tag (BeforeAttributeValue tag held))
before_attribute_value_row tag held DoubleQuote c = to (in_tag (AttributeValueQuoted tag (bare held) Double))
before_attribute_value_row tag held SingleQuote c = to (in_tag (AttributeValueQuoted tag (bare held) Single))
before_attribute_value_row tag held Greater c = emit_tag (with_bare tag held)
before_attribute_value_row tag held _ c = again (in_tag (AttributeValueUnquoted tag (bare held)))

-- 13.2.5.36 #attribute-value-(double-quoted)-state Attribute value (double-quoted) state
abbrev pub double_quoted_row : PartialTag → Option Attribute → Class → ℕ → Step
double_quoted_row tag held DoubleQuote c = to (in_tag (AfterAttributeValueQuoted (with_attribute tag held)))
double_quoted_row tag held Ampersand c = to (in_reference (reference.Ampersand (back.AttributeValueQuoted tag held Double)))
double_quoted_row tag held InputEnd c = finish
double_quoted_row tag held _ c = to (in_tag (AttributeValueQuoted tag (longer_value held c) Double))

-- 13.2.5.37 #attribute-value-(single-quoted)-state Attribute value (single-quoted) state
abbrev pub single_quoted_row : PartialTag → Option Attribute → Class → ℕ → Step
single_quoted_row tag held SingleQuote c = to (in_tag (AfterAttributeValueQuoted (with_attribute tag held)))
single_quoted_row tag held Ampersand c = to (in_reference (reference.Ampersand (back.AttributeValueQuoted tag held Single)))
single_quoted_row tag held InputEnd c = finish
single_quoted_row tag held _ c = to (in_tag (AttributeValueQuoted tag (longer_value held c) Single))

abbrev pub quoted_row : PartialTag → Option Attribute → Quote → Class → ℕ → Step
quoted_row tag held Double k c = double_quoted_row tag held k c
quoted_row tag held Single k c = single_quoted_row tag held k c

-- 13.2.5.38 #attribute-value-(unquoted)-state Attribute value (unquoted) state
abbrev pub unquoted_row : PartialTag → Option Attribute → Class → ℕ → Step
unquoted_row tag held Space c = to (in_tag (BeforeAttributeName (with_attribute tag held)))
unquoted_row tag held Ampersand c = to (in_reference (reference.Ampersand (back.AttributeValueUnquoted tag held)))
unquoted_row tag held Greater c = emit_tag (with_attribute tag held)
unquoted_row tag held InputEnd c = finish
unquoted_row tag held _ c = to (in_tag (AttributeValueUnquoted tag (longer_value held c)))

-- 13.2.5.39 #after-attribute-value-(quoted)-state After attribute value (quoted) state
abbrev pub after_quoted_row : PartialTag → Class → ℕ → Step
after_quoted_row tag Space c = to (in_tag (BeforeAttributeName tag))
after_quoted_row tag Slash c = to (in_tag (SelfClosingStartTag tag))
after_quoted_row tag Greater c = emit_tag tag
after_quoted_row tag InputEnd c = finish
after_quoted_row tag _ c = again (in_tag (BeforeAttributeName tag))

-- 13.2.5.40 #self-closing-start-tag-state Self-closing start tag state
abbrev pub self_closing_row : PartialTag → Class → ℕ → Step
self_closing_row tag Greater c = emit_tag_as true tag
self_closing_row tag InputEnd c = finish
self_closing_row tag _ c = again (in_tag (BeforeAttributeName tag))

-- the rows of these states
abbrev pub tag_row : TagState → Class → ℕ → Step
tag_row TagOpen = tag_open_row
tag_row EndTagOpen = end_tag_open_row
tag_row (TagName tag) = tag_name_row tag
tag_row (BeforeAttributeName tag) = before_attribute_name_row tag
tag_row (AttributeName tag name) = attribute_name_row tag name
tag_row (AfterAttributeName tag held) = after_attribute_name_row tag held
tag_row (BeforeAttributeValue tag held) = before_attribute_value_row tag held
tag_row (AttributeValueQuoted tag held quote) = quoted_row tag held quote
tag_row (AttributeValueUnquoted tag held) = unquoted_row tag held
tag_row (AfterAttributeValueQuoted tag) = after_quoted_row tag
tag_row (SelfClosingStartTag tag) = self_closing_row tag
