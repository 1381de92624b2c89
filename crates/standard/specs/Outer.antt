-- The text of a tree (13.3 #serialising-html-fragments Serializing HTML fragments), by recursion on
-- the tree.
use Rattle.std.specs.Prelude.{ℕ, ◌==◌, Bool, false, if◌then◌else◌, List, [], ◌∷◌, ◌++◌, map, flat_map, length, codes, Some, None}
use Rattle.std.specs.List.{concat}
use Rattle.html_types.specs.Names.{name_text}
use Rattle.html_types.specs.declared.attributes.Attribute.{Attribute}
use Rattle.html_types.specs.declared.word.Word.{Word}
use Rattle.html_types.specs.declared.word.Word.TheVariants.{Area, Base, Basefont, Bgsound, Br, Col, Embed, Frame, Hr, Img, Input, Keygen, Link, Meta, Param, Source, Track, Wbr, Style, Script, Xmp, Iframe, Noembed, Noframes, Plaintext, Noscript}
use Rattle.html_types.specs.declared.tree.Kind.{Kind}
use Rattle.html_types.specs.declared.tree.Kind.TheVariants as kind
use Rattle.standard.specs.Rows.{is_among}
use Rattle.standard.specs.Tree.{Nodes, kind_of, parent_of, shown_of, fold_nodes}

-- HTML elements without an end tag; their children are not shown
abbrev pub void_words : List Word
void_words = Area ∷ Base ∷ Basefont ∷ Bgsound ∷ Br ∷ Col ∷ Embed ∷ Frame ∷ Hr ∷ Img ∷ Input ∷ Keygen ∷ Link ∷ Meta ∷ Param ∷ Source ∷ Track ∷ Wbr ∷ []

-- HTML elements under which text stands as it is
abbrev pub literal_words : List Word
literal_words = Style ∷ Script ∷ Xmp ∷ Iframe ∷ Noembed ∷ Noframes ∷ Plaintext ∷ Noscript ∷ []

abbrev pub is_void : Kind → Bool
is_void (kind.Element name attributes) = is_among void_words name
is_void _ = false

abbrev pub is_literal : Kind → Bool
is_literal (kind.Element name attributes) = is_among literal_words name
is_literal _ = false

-- ---- escapes

abbrev pub escaped : ℕ → List ℕ
escaped c = if c == 38 then codes "&amp;" else (if c == 160 then codes "&nbsp;"
    else (if c == 60 then codes "&lt;" else (if c == 62 then codes "&gt;" else c ∷ [])))

abbrev pub escaped_in_value : ℕ → List ℕ
escaped_in_value c = if c == 34 then codes "&quot;" else escaped c

abbrev pub attribute_text : Attribute → List ℕ
attribute_text a = codes " " ++ a.name ++ codes "=\"" ++ flat_map escaped_in_value a.value ++ codes "\""

-- ---- nodes

-- a Text under that node
abbrev pub text_under : Kind → List ℕ → List ℕ
text_under above text = if is_literal above then text else flat_map escaped text

-- what stands before what a node shows; `above` is what its parent is
abbrev pub opening_text : Kind → Kind → List ℕ
opening_text above kind.Document = []
opening_text above kind.Contents = []
opening_text above (kind.Doctype name) = codes "<!DOCTYPE " ++ name ++ codes ">"
opening_text above (kind.Element name attributes) = codes "<" ++ name_text name ++ flat_map attribute_text attributes ++ codes ">"
opening_text above (kind.Text text) = text_under above text
opening_text above (kind.Comment text) = codes "<!--" ++ text ++ codes "-->"

-- what stands behind it
abbrev pub closing_text : Kind → List ℕ
closing_text (kind.Element name attributes) = if is_among void_words name then [] else codes "</" ++ name_text name ++ codes ">"
closing_text _ = []

-- what the parent of a node is; of one without a parent, as if it were a Document
abbrev pub above_kind : Nodes → ℕ → Kind
above_kind t n = elim (parent_of t n) [ None ↦ kind.Document | Some p ↦ kind_of t p ]

-- the nodes that are shown under a node
abbrev pub shown_in_text : Nodes → ℕ → List ℕ
shown_in_text t n = if is_void (kind_of t n) then [] else shown_of t n

-- the text of a node from the texts of those shown under it
abbrev pub around : Nodes → ℕ → List (List ℕ) → List ℕ
around t n inner = opening_text (above_kind t n) (kind_of t n) ++ concat inner ++ closing_text (kind_of t n)

-- the outerHTML of a node
unfoldable pub outer_text : Nodes → ℕ → List ℕ
outer_text t n = fold_nodes (around t) [] (shown_in_text t) (length t) n

-- the innerHTML of a node: the texts of those shown under it
abbrev pub inner_text : Nodes → ℕ → List ℕ
inner_text t n = concat (map (outer_text t) (shown_in_text t n))

-- the text of the Document
abbrev pub document_text : Nodes → List ℕ
document_text t = outer_text t 0
