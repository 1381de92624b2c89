-- The dump of a tree, in bytes: a line for each node under the Document, in tree order
-- (DOM 1.1 #trees), and a last line.
use Rattle.std.specs.Prelude.{ℕ, ◌+◌, List, [], ◌++◌, flat_map, length, decimal, encode_utf8_all, codes, option_to_list}
use Rattle.json.specs.Print.{quoted}
use Rattle.html_types.specs.Names.{name_text, space_of}
use Rattle.html_types.specs.declared.attributes.Attribute.{Attribute}
use Rattle.html_types.specs.declared.name.Space.{Space}
use Rattle.html_types.specs.declared.name.Space.TheVariants.{Html, MathMl, Svg}
use Rattle.html_types.specs.declared.name.Name.{Name}
use Rattle.html_types.specs.declared.tree.Kind.{Kind}
use Rattle.html_types.specs.declared.tree.Kind.TheVariants as kind
use Rattle.standard.specs.Tree.{Nodes, kind_of, children_of, contents_of, fold_nodes}

-- the text as serde_json writes a string
abbrev pub json_string : List ℕ → List ℕ
json_string t = quoted (encode_utf8_all t)

-- ---- a line

abbrev pub attribute_words : Attribute → List ℕ
attribute_words a = codes " " ++ json_string a.name ++ codes " " ++ json_string a.value

-- what stands before a name of that namespace
abbrev pub space_words : Space → List ℕ
space_words Html = []
space_words MathMl = codes "math "
space_words Svg = codes "svg "

abbrev pub dumped_name : Name → List ℕ
dumped_name n = space_words (space_of n) ++ name_text n

-- what a line says of what a node is
abbrev pub kind_words : Kind → List ℕ
kind_words kind.Document = []
kind_words kind.Contents = codes " contents"
kind_words (kind.Doctype name) = codes " doctype " ++ json_string name
kind_words (kind.Element name attributes) = codes " element " ++ json_string (dumped_name name) ++ flat_map attribute_words attributes
kind_words (kind.Text text) = codes " text " ++ json_string text
kind_words (kind.Comment text) = codes " comment " ++ json_string text

abbrev pub node_line : ℕ → Kind → List ℕ
node_line depth k = codes "node " ++ decimal depth ++ kind_words k ++ codes "\n"

-- ---- the lines

-- the nodes right under a node: a template's contents stand before its children
abbrev pub under_of : Nodes → ℕ → List ℕ
under_of t n = option_to_list (contents_of t n) ++ children_of t n

-- the lines of a node and of all under it at a depth, from those of the nodes right under it,
-- which are one deeper
abbrev pub lines_around : Nodes → ℕ → List (ℕ → List ℕ) → ℕ → List ℕ
lines_around t n inner depth = node_line depth (kind_of t n) ++ flat_map (λ lines. lines (depth + 1)) inner

unfoldable pub dump_lines : Nodes → ℕ → ℕ → List ℕ
dump_lines t n = fold_nodes (lines_around t) (λ depth. []) (under_of t) (length t) n

-- the Document's children have depth 0
abbrev pub dump_text : Nodes → List ℕ
dump_text t = flat_map (λ n. dump_lines t n 0) (children_of t 0) ++ codes "end\n"
