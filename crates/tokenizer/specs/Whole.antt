-- A tag that stands whole in a text.
use Rattle.std.specs.Prelude.{◌≡◌, ℕ, Bool, true, false, not, List, [], ◌∷◌, ◌++◌, ◌&&◌, ◌||◌, ◌==◌, nat_lt, Option, Some, None, slice_range}
use Rattle.std.specs.List.{list_any}
use Rattle.std.specs.Str.{chars}
use Rattle.html_types.specs.Attributes.{has_name}
use Rattle.html_types.specs.declared.attributes.Attribute.{Attribute}
use Rattle.html_types.specs.declared.class.Class.{Class}
use Rattle.html_types.specs.declared.class.Class.TheVariants.{Space, DoubleQuote, Ampersand, SingleQuote, Hyphen, Slash, Less, Equals, Greater, Alpha, InputEnd}
use Rattle.html_types.specs.declared.state.TagState.TheVariants.{TagName, BeforeAttributeName, AttributeName}
use Rattle.html_types.specs.declared.token.Token.{Token}
use Rattle.html_types.specs.declared.token.PartialTag.{PartialTag}
use Rattle.html_types.specs.declared.token.TagKind.{TagKind}
use Rattle.html_types.specs.declared.token.Quote.{Quote}
use Rattle.html_types.specs.declared.token.Quote.TheVariants as quote
use Rattle.standard.specs.Class.{class_of, name_char, shown}
use Rattle.html_types.specs.declared.reference_state.ReturnState.{ReturnState}
use Rattle.html_types.specs.declared.reference_state.ReturnState.TheVariants.{AttributeValueQuoted, AttributeValueUnquoted}
use Rattle.standard.specs.Entities.{Entities}
use Rattle.standard.specs.ReferenceStates.{return_state}
use Rattle.standard.specs.Step.{data_state, in_tag, new_tag}
use Rattle.standard.specs.Tokenizer.{feed}
use Rattle.tokenizer.specs.declared.part.Part.{Part}
use Rattle.tokenizer.specs.declared.part.Part.TheVariants as part
use Rattle.tokenizer.specs.declared.whole.Behind.{Behind}
use Rattle.tokenizer.specs.declared.whole.Behind.TheVariants as behind

-- the classes that a tag's name goes on over
abbrev pub in_name : Class → Bool
in_name Space = false
in_name Slash = false
in_name Greater = false
in_name InputEnd = false
in_name _ = true

-- and an attribute's
abbrev pub in_attribute_name : Class → Bool
in_attribute_name Space = false
in_attribute_name Slash = false
in_attribute_name Greater = false
in_attribute_name InputEnd = false
in_attribute_name Equals = false
in_attribute_name _ = true

-- and a value between quotes
abbrev pub in_quoted : Quote → Class → Bool
in_quoted quote.Double DoubleQuote = false
in_quoted quote.Single SingleQuote = false
in_quoted q Ampersand = false
in_quoted q InputEnd = false
in_quoted q _ = true

-- and one without quotes
abbrev pub in_unquoted : Class → Bool
in_unquoted Space = false
in_unquoted DoubleQuote = false
in_unquoted SingleQuote = false
in_unquoted Ampersand = false
in_unquoted Greater = false
in_unquoted InputEnd = false
in_unquoted _ = true

-- and the text of a comment, up to what may end it
abbrev pub in_comment_text : Class → Bool
in_comment_text Hyphen = false
in_comment_text Less = false
in_comment_text InputEnd = false
in_comment_text _ = true

-- and that of a bogus comment, and what is dropped in a bogus doctype
abbrev pub in_bogus : Class → Bool
in_bogus Greater = false
in_bogus InputEnd = false
in_bogus _ = true

-- and a doctype's name
abbrev pub in_doctype_name : Class → Bool
in_doctype_name Space = false
in_doctype_name Greater = false
in_doctype_name InputEnd = false
in_doctype_name _ = true

-- and its identifiers between quotes
abbrev pub in_identifier : Quote → Class → Bool
in_identifier quote.Double DoubleQuote = false
in_identifier quote.Single SingleQuote = false
in_identifier q Greater = false
in_identifier q InputEnd = false
in_identifier q _ = true

abbrev pub is_space : Class → Bool
is_space Space = true
is_space _ = false

abbrev pub is_alpha : Class → Bool
is_alpha Alpha = true
is_alpha _ = false

-- a character that this part gets as it is
abbrev pub is_of : Part → ℕ → Bool
is_of part.TagName c = in_name (class_of c) && (name_char c == c)
is_of part.Gap c = is_space (class_of c)
is_of part.AttributeName c = in_attribute_name (class_of c) && (name_char c == c)
is_of (part.Quoted q) c = in_quoted q (class_of c) && (shown c == c)
is_of part.Unquoted c = in_unquoted (class_of c) && (shown c == c)
is_of part.Comment c = in_comment_text (class_of c) && (shown c == c)
is_of part.BogusComment c = in_bogus (class_of c) && (shown c == c)
is_of part.DoctypeName c = in_doctype_name (class_of c) && (name_char c == c)
is_of (part.Identifier q) c = in_identifier q (class_of c)
is_of part.BogusDoctype c = in_bogus (class_of c)

abbrev pub all_of : Part → List ℕ → Bool
all_of p [] = true
all_of p (c ∷ cs) = is_of p c && all_of p cs

-- the bytes at which a run of it ends: of ASCII a CR, and those that it doesn't get as they are
abbrev pub ends : Part → ℕ → Bool
ends p b = nat_lt b 128 && ((b == 13) || not (is_of p b))

abbrev pub begins_name : List ℕ → Bool
begins_name [] = false
begins_name (c ∷ cs) = is_alpha (class_of c)

abbrev pub begins_with : Part → List ℕ → Bool
begins_with p [] = false
begins_with p (c ∷ cs) = is_of p c

abbrev pub quote_mark : Quote → ℕ
quote_mark quote.Double = 34
quote_mark quote.Single = 39

-- the end of a tag, with or without a slash
abbrev pub close_text : Bool → List ℕ
close_text true = 47 ∷ 62 ∷ []
close_text false = 62 ∷ []

-- the characters of a text between two places
abbrev pub piece : List ℕ → ℕ → ℕ → List ℕ
piece text from to = chars (slice_range text from to)

abbrev pub has_cr : List ℕ → Bool
has_cr cs = list_any (λ c. c == 13) cs

-- what stands behind a part without white space; it may be a value without quotes
abbrev pub bare : Bool → Behind
bare false = behind.Nothing
bare true = behind.Value

-- these characters stand behind such a part: white space, or none
abbrev pub is_gap : Bool → Behind → List ℕ → Bool
is_gap unquoted behind.Space [] = false
is_gap unquoted behind.Space (c ∷ cs) = all_of part.Gap (c ∷ cs)
is_gap unquoted behind.Nothing [] = not unquoted
is_gap unquoted behind.Value [] = unquoted
is_gap unquoted _ (c ∷ cs) = false

-- what may come next in a tag: another part, or the tag's end
abbrev pub goes_on : Behind → Class → Bool
goes_on b Greater = true
goes_on b Equals = false
goes_on b InputEnd = false
goes_on behind.Space Space = false
goes_on behind.Space k = true
goes_on behind.Nothing Slash = true
goes_on behind.Nothing k = false
goes_on behind.Value Space = true
goes_on behind.Value k = false

abbrev pub begins_part : Behind → List ℕ → Bool
begins_part b [] = false
begins_part b (c ∷ cs) = goes_on b (class_of c)

-- the tag may end there, with a slash or without
abbrev pub may_close : Behind → Bool → Bool
may_close behind.Value slash = not slash
may_close b slash = true

-- behind these characters a name of a tag of this kind begins
abbrev pub Opens : List ℕ → TagKind → Type 0
Opens cs k = (es : Entities) (foreign : Bool) (rest : List ℕ) → begins_name rest ≡ true → feed es foreign data_state (cs ++ rest) ≡ feed es foreign (in_tag (TagName (new_tag k []))) rest

-- they are the tag so far, and a part or the end follows
abbrev pub Leads : Entities → Behind → List ℕ → PartialTag → Type 0
Leads es b cs tag = (foreign : Bool) (rest : List ℕ) → begins_part b rest ≡ true → feed es foreign data_state (cs ++ rest) ≡ feed es foreign (in_tag (BeforeAttributeName tag)) rest

-- the part that a value is, in quotes or without
abbrev pub value_part : Option Quote → Part
value_part (Some q) = part.Quoted q
value_part None = part.Unquoted

-- where references in it return to
abbrev pub value_of : Option Quote → PartialTag → Attribute → ReturnState
value_of (Some q) tag a = AttributeValueQuoted tag (Some a) q
value_of None tag a = AttributeValueUnquoted tag (Some a)

-- in such a value they come to these characters, where a character follows
abbrev pub Reads : Entities → Option Quote → List ℕ → List ℕ → Type 0
Reads es o cs value = (foreign : Bool) (tag : PartialTag) (a : Attribute) (c : ℕ) (rest : List ℕ) →
    feed es foreign (return_state (value_of o tag a)) (cs ++ c ∷ rest) ≡ feed es foreign (return_state (value_of o tag (record a { value = a.value ++ value }))) (c ∷ rest)

-- they go on a value
abbrev pub ReadsOn : Entities → Option Quote → List ℕ → List ℕ → List ℕ → Type 0
ReadsOn es o cs old new = (added : List ℕ) × (new ≡ old ++ added) × Reads es o cs added

-- behind an attribute's name, they give it this value, and a part or the end follows
abbrev pub HasValue : Entities → Behind → List ℕ → List ℕ → Type 0
HasValue es b cs value = (foreign : Bool) (tag : PartialTag) (name rest : List ℕ) → has_name name tag.attributes ≡ false → begins_part b rest ≡ true →
    feed es foreign (in_tag (AttributeName tag name)) (cs ++ rest) ≡ feed es foreign (in_tag (BeforeAttributeName (record tag { attributes = tag.attributes ++ record { name = name; value = value } ∷ [] }))) rest

-- they are an attribute, and a part or the end follows
abbrev pub Gives : Entities → Behind → List ℕ → Attribute → Type 0
Gives es b cs a = (foreign : Bool) (tag : PartialTag) (rest : List ℕ) → has_name a.name tag.attributes ≡ false → begins_part b rest ≡ true →
    feed es foreign (in_tag (BeforeAttributeName tag)) (cs ++ rest) ≡ feed es foreign (in_tag (BeforeAttributeName (record tag { attributes = tag.attributes ++ a ∷ [] }))) rest

-- Read one by one from the data state, the last of the characters makes this token, those before it none, and they lead to the data state again.
pub record MakesAlone (es : Entities) (cs : List ℕ) (t : Token) : Type 0 where
  pub front : List ℕ
  pub last : ℕ
  pub split : cs ≡ front ++ last ∷ []
  pub silent : (foreign : Bool) → (feed es foreign data_state front).tokens ≡ []
  pub whole : (foreign : Bool) → feed es foreign data_state cs ≡ record { tokens = t ∷ []; state = data_state }
