-- A tree in three flat lists: nodes, attributes, and the bytes of their texts. Each row reads as its node, wherever its parts lie.
use Rattle.std.specs.Prelude.{◌≡◌, ℕ, ◌+◌, ◌<◌, ◌≤◌, List, [], ◌∷◌, ◌++◌, length, take, drop, flat_map, encode_utf8_all, slice_index_or, Option, Some, None}
use Rattle.html_types.specs.Names.{name_text, space_of}
use Rattle.html_types.specs.declared.attributes.Attribute.{Attribute}
use Rattle.html_types.specs.declared.name.Space.{Space}
use Rattle.html_types.specs.declared.name.Space.TheVariants as spaces
use Rattle.html_types.specs.declared.tree.Node.{Node}
use Rattle.html_types.specs.declared.tree.Kind.{Kind}
use Rattle.html_types.specs.declared.tree.Kind.TheVariants as kinds
use Rattle.standard.specs.Tree.{Nodes, kind_of, parent_of, children_of, contents_of, attributes_of, first_of, last_of, previous_of}
use Rattle.doc_tree.specs.Rows.{next_of}
use Rattle.html_document.specs.declared.spans.TheConstants.{NONE}
use Rattle.html_document.specs.declared.spans.Span.{Span}
use Rattle.html_document.specs.declared.spans.FlatNode.{FlatNode}
use Rattle.html_document.specs.declared.spans.FlatAttribute.{FlatAttribute}
use Rattle.html_document.specs.declared.flat.Flat.{Flat}

-- ---- what a row says of its node

abbrev pub kind_number : Kind → ℕ
kind_number kinds.Document = 0
kind_number (kinds.Element name attributes) = 1
kind_number (kinds.Text text) = 2
kind_number (kinds.Comment text) = 3
kind_number (kinds.Doctype name) = 4
kind_number kinds.Contents = 5

abbrev pub space_number : Space → ℕ
space_number spaces.Html = 0
space_number spaces.MathMl = 1
space_number spaces.Svg = 2

abbrev pub space_at : Kind → ℕ
space_at (kinds.Element name attributes) = space_number (space_of name)
space_at _ = 0

-- a node's name or text
abbrev pub words_of : Kind → List ℕ
words_of (kinds.Doctype name) = name
words_of (kinds.Element name attributes) = name_text name
words_of (kinds.Text text) = text
words_of (kinds.Comment text) = text
words_of _ = []

abbrev pub link_number : Option ℕ → ℕ
link_number None = NONE
link_number (Some n) = n

pub record IsNode (t : Nodes) (n : ℕ) (r : FlatNode) : Type 0 where
  pub kind : r.kind ≡ kind_number (kind_of t n)
  pub space : r.space ≡ space_at (kind_of t n)
  pub parent : r.parent ≡ link_number (parent_of t n)
  pub first_child : r.first_child ≡ link_number (first_of (children_of t n))
  pub last_child : r.last_child ≡ link_number (last_of (children_of t n))
  pub previous : r.previous ≡ link_number (previous_of t n (parent_of t n))
  pub next : r.next ≡ link_number (next_of t n (parent_of t n))
  pub contents : r.contents ≡ link_number (contents_of t n)

-- ---- texts and attributes

-- the bytes in that place are the text in UTF-8
pub record IsText (bs : List ℕ) (s : Span) (text : List ℕ) : Type 0 where
  pub within : s.start + s.length ≤ length bs
  pub bytes : take s.length (drop s.start bs) ≡ encode_utf8_all text

pub record IsAttribute (bs : List ℕ) (r : FlatAttribute) (a : Attribute) : Type 0 where
  pub name : IsText bs r.name a.name
  pub value : IsText bs r.value a.value

-- these are those attributes, in order
abbrev pub AreAttributes : List ℕ → List FlatAttribute → List Attribute → Type 0
AreAttributes bs [] [] = Unit {0}
AreAttributes bs [] (a ∷ more) = ⊥
AreAttributes bs (r ∷ rs) [] = ⊥
AreAttributes bs (r ∷ rs) (a ∷ more) = IsAttribute bs r a × AreAttributes bs rs more

-- the attributes in that place of the list are those
pub record HaveAttributes (as' : List FlatAttribute) (bs : List ℕ) (s : Span) (own : List Attribute) : Type 0 where
  pub within : s.start + s.length ≤ length as'
  pub read : AreAttributes bs (take s.length (drop s.start as')) own

-- ---- the lists

pub record IsRow (t : Nodes) (as' : List FlatAttribute) (bs : List ℕ) (n : ℕ) (r : FlatNode) : Type 0 where
  pub node : IsNode t n r
  pub words : IsText bs r.text (words_of (kind_of t n))
  pub attributes : HaveAttributes as' bs r.attributes (attributes_of (kind_of t n))

-- what a number past the end of the list stands for
abbrev pub no_span : Span
no_span = record { start = 0; length = 0 }

abbrev pub no_row : FlatNode
no_row = record { kind = 0; space = 0; parent = 0; first_child = 0; last_child = 0; previous = 0; next = 0; contents = 0; attributes = no_span; text = no_span }

abbrev pub row_at : List FlatNode → ℕ → FlatNode
row_at ns n = slice_index_or ns n no_row

-- the bytes of an attribute, and of a node with its attributes
abbrev pub attribute_bytes : Attribute → List ℕ
attribute_bytes a = encode_utf8_all a.name ++ encode_utf8_all a.value

abbrev pub kind_bytes : Kind → List ℕ
kind_bytes k = encode_utf8_all (words_of k) ++ flat_map attribute_bytes (attributes_of k)

abbrev pub node_bytes : Node → List ℕ
node_bytes n = kind_bytes n.kind

abbrev pub node_attributes : Node → List Attribute
node_attributes n = attributes_of n.kind

-- The lists are the tree's: each row is its node, and there are no more attributes and bytes than the nodes have.
pub record Shows (t : Nodes) (ns : List FlatNode) (as' : List FlatAttribute) (bs : List ℕ) : Type 0 where
  pub size : length ns ≡ length t
  -- so no number of a node is that of none
  pub small : length ns ≤ NONE
  pub rows : (n : ℕ) → n < length t → IsRow t as' bs n (row_at ns n)
  pub attributes : length as' ≡ length (flat_map node_attributes t)
  pub text : bs ≡ flat_map node_bytes t

-- ---- how the lists grow

-- attributes were added at their ends
pub record AttributesAdded (as' : List FlatAttribute) (bs : List ℕ) (own : List Attribute) (new_as : List FlatAttribute) (new_bs : List ℕ) : Type 0 where
  pub list : List FlatAttribute
  pub attributes : new_as ≡ as' ++ list
  pub text : new_bs ≡ bs ++ flat_map attribute_bytes own
  pub read : AreAttributes new_bs list own

-- a node was
pub record RowAdded (t : Nodes) (n : ℕ) (old new : Flat) : Type 0 where
  pub row : FlatNode
  pub list : List FlatAttribute
  pub nodes : new.nodes.items ≡ old.nodes.items ++ row ∷ []
  pub attributes : new.attributes.items ≡ old.attributes.items ++ list
  pub number : length list ≡ length (attributes_of (kind_of t n))
  pub text : new.text.items ≡ old.text.items ++ kind_bytes (kind_of t n)
  pub is : IsRow t new.attributes.items new.text.items n row
