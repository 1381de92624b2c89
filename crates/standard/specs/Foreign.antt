-- Foreign content: which tokens go by its rules (13.2.6 #tree-construction, the tree construction
-- dispatcher), and its elements (13.2.6.1 #creating-and-inserting-nodes).
use Rattle.std.specs.Prelude.{ℕ, Bool, true, false, not, ◌&&◌, ◌||◌, List, [], ◌∷◌, map, codes, Option, Some, None, unwrap_or}
use Rattle.std.specs.List.{list_any}
use Rattle.std.specs.Char.{to_ascii_lowercase}
use Rattle.html_types.specs.Text.{same_text}
use Rattle.html_types.specs.Names.{name_text, space_of, same_space}
use Rattle.html_types.specs.declared.attributes.Attribute.{Attribute}
use Rattle.html_types.specs.declared.word.Word.{Word}
use Rattle.html_types.specs.declared.word.Word.TheVariants as word
use Rattle.html_types.specs.declared.word.Word.TheVariants.{B, Big, Blockquote, Body, Br, Center, Code, Dd, Div, Dl, Dt, Em, Embed, H1, H2, H3, H4, H5, H6, Head, Hr, I, Img, Li, Listing, Menu, Meta, Nobr, Ol, P, Pre, Ruby, S, Small, Span, Strike, Strong, Sub, Sup, Table, Tt, U, Ul, Var}
use Rattle.html_types.specs.declared.name.Space.{Space}
use Rattle.html_types.specs.declared.name.Space.TheVariants.{Html, MathMl, Svg}
use Rattle.html_types.specs.declared.name.Name.{Name}
use Rattle.html_types.specs.declared.name.Name.TheVariants.{Other}
use Rattle.html_types.specs.declared.token.Tag.{Tag}
use Rattle.html_types.specs.declared.token.Token.{Token}
use Rattle.html_types.specs.declared.token.Token.TheVariants.{StartTag, Character, EndOfFile}
use Rattle.html_types.specs.declared.operation.NodeId.{NodeId}
use Rattle.html_types.specs.declared.open.OpenElement.{OpenElement}
use Rattle.html_types.specs.declared.open.Open.{Open}
use Rattle.standard.specs.ForeignNames.{svg_names, svg_attributes, math_attributes, respelled}
use Rattle.standard.specs.Rows.{is_among}
use Rattle.standard.specs.Elements.{is_word, is_math, is_svg, text_points, html_points}
use Rattle.standard.specs.Tree.{attribute}

abbrev pub is_html : Name → Bool
is_html n = same_space (space_of n) Html

abbrev pub is_annotation : Name → Bool
is_annotation n = is_math (codes "annotation-xml" ∷ []) n

-- ---- an element of the stack

-- the texts that an annotation-xml's `encoding` is equal to, ignoring ASCII case, where it is an HTML integration point
abbrev pub is_html_encoding : Option (List ℕ) → Bool
is_html_encoding None = false
is_html_encoding (Some text) =
    same_text (map to_ascii_lowercase text) (codes "text/html") || same_text (map to_ascii_lowercase text) (codes "application/xhtml+xml")

unfoldable pub is_html_annotation : Tag → Bool
is_html_annotation tag = is_annotation tag.name && is_html_encoding (attribute (codes "encoding") tag.attributes)

-- the element of that id that was made for the tag
abbrev pub opened : NodeId → Tag → OpenElement
opened id tag = record { id = id; name = tag.name; html_point = is_html_annotation tag }

-- a MathML text integration point
abbrev pub is_text_point : OpenElement → Bool
is_text_point e = is_math text_points e.name

-- an HTML integration point
abbrev pub is_html_point : OpenElement → Bool
is_html_point e = is_svg html_points e.name || e.html_point

-- an element at which leaving foreign content stops
unfoldable pub is_html_or_point : OpenElement → Bool
is_html_or_point e = is_html e.name || is_text_point e || is_html_point e

-- ---- the dispatcher

-- the adjusted current node (13.2.4.2 #the-stack-of-open-elements): in a fragment the context
-- stands for the first element of the stack
abbrev pub adjusted_of : Option OpenElement → List OpenElement → Option OpenElement
adjusted_of context [] = None
adjusted_of None (e ∷ es) = Some e
adjusted_of (Some c) (e ∷ []) = Some c
adjusted_of (Some c) (e ∷ d ∷ es) = Some e

abbrev pub adjusted : Open → Option OpenElement
adjusted b = adjusted_of b.context b.stack

abbrev pub is_foreign_element : Option OpenElement → Bool
is_foreign_element None = false
is_foreign_element (Some e) = not (is_html e.name)

-- there is an adjusted current node, and it isn't an HTML element
unfoldable pub is_foreign : Open → Bool
is_foreign b = is_foreign_element (adjusted b)

-- a start tag but mglyph and malignmark, or a character
abbrev pub is_for_text_point : Token → Bool
is_for_text_point (StartTag tag) = not (is_among (word.Mglyph ∷ word.Malignmark ∷ []) tag.name)
is_for_text_point (Character c) = true
is_for_text_point _ = false

abbrev pub is_svg_start : Token → Bool
is_svg_start (StartTag tag) = is_word word.Svg tag.name
is_svg_start _ = false

abbrev pub is_for_html_point : Token → Bool
is_for_html_point (StartTag tag) = true
is_for_html_point (Character c) = true
is_for_html_point _ = false

abbrev pub is_end_of_file : Token → Bool
is_end_of_file EndOfFile = true
is_end_of_file _ = false

-- with that adjusted current node the token goes by the rules of the mode
abbrev pub goes_by_mode : Token → OpenElement → Bool
goes_by_mode t e =
    is_html e.name || (is_text_point e && is_for_text_point t) || (is_annotation e.name && is_svg_start t)
    || (is_html_point e && is_for_html_point t) || is_end_of_file t

-- with that adjusted current node the token goes by the rules of foreign content
-- (13.2.6 #tree-construction)
unfoldable pub goes_foreign : Token → Option OpenElement → Bool
goes_foreign t None = false
goes_foreign t (Some e) = not (goes_by_mode t e)

-- ---- the start tags at which foreign content is left (13.2.6.5 #parsing-main-inforeign)

abbrev pub breaking_words : List Word
breaking_words =
    B ∷ Big ∷ Blockquote ∷ Body ∷ Br ∷ Center ∷ Code ∷ Dd ∷ Div ∷ Dl ∷ Dt ∷ Em ∷ Embed ∷ H1 ∷ H2 ∷ H3 ∷ H4 ∷ H5 ∷ H6 ∷ Head ∷ Hr ∷ I ∷ Img ∷
    Li ∷ Listing ∷ Menu ∷ Meta ∷ Nobr ∷ Ol ∷ P ∷ Pre ∷ Ruby ∷ S ∷ Small ∷ Span ∷ Strong ∷ Strike ∷ Sub ∷ Sup ∷ Table ∷ Tt ∷ U ∷ Ul ∷ Var ∷ []

abbrev pub is_font_attribute : Attribute → Bool
is_font_attribute a = same_text a.name (codes "color") || same_text a.name (codes "face") || same_text a.name (codes "size")

unfoldable pub breaks_out : Tag → Bool
breaks_out tag = is_among breaking_words tag.name || (is_word word.Font tag.name && list_any is_font_attribute tag.attributes)

-- ---- a tag as the namespace has it (13.2.6.1 #creating-and-inserting-nodes,
-- 13.2.6.5 #parsing-main-inforeign)

abbrev pub respelled_or_own : List (List ℕ) → List ℕ → List ℕ
respelled_or_own names lower = unwrap_or (respelled names lower) lower

abbrev pub attribute_name : Space → List ℕ → List ℕ
attribute_name Html name = name
attribute_name MathMl name = respelled_or_own math_attributes name
attribute_name Svg name = respelled_or_own svg_attributes name

abbrev pub foreign_attribute : Space → Attribute → Attribute
foreign_attribute s a = record a { name = attribute_name s a.name }

-- adjust MathML attributes, adjust SVG attributes
unfoldable pub foreign_attributes : Space → List Attribute → List Attribute
foreign_attributes s as' = map (foreign_attribute s) as'

-- the name in that namespace
abbrev pub name_in : Space → Name → Name
name_in Html n = n
name_in MathMl n = Other MathMl (name_text n)
name_in Svg n = Other Svg (name_text n)

-- and respelled
abbrev pub foreign_name : Space → Name → Name
foreign_name Html n = n
foreign_name MathMl n = Other MathMl (name_text n)
foreign_name Svg n = Other Svg (respelled_or_own svg_names (name_text n))

-- the tag of an element of that namespace, by its own name
unfoldable pub tag_in : Space → Tag → Tag
tag_in s tag = record tag { name = name_in s tag.name; attributes = foreign_attributes s tag.attributes }

-- and under the name that the namespace has for it
unfoldable pub foreign_tag : Space → Tag → Tag
foreign_tag s tag = record tag { name = foreign_name s tag.name; attributes = foreign_attributes s tag.attributes }
