-- A tree (DOM 4.2 #node-trees, 4.4 #interface-node) as the list of its nodes. A node is named by
-- its number, its place in that list; the Document is number 0, and no node is ever removed from
-- the list.
use Rattle.std.specs.Prelude.{◌≡◌, ℕ, ◌+◌, ◌-◌, ◌<◌, ◌≤◌, zero, suc, Bool, true, false, cond, not, ◌==◌, ◌||◌, ◌&&◌, if◌then◌else◌, nat_lt, List, [], ◌∷◌, ◌++◌, length, map, drop, insert, find, slice_index, slice_index_or, slice_set, codes, Option, Some, None, is_some, option_and_then, unwrap_or}
use Rattle.std.specs.Option.{option_map, option_or}
use Rattle.std.specs.List.{list_any, concat}
use Rattle.html_types.specs.Text.{same_text}
use Rattle.html_types.specs.Attributes.{has_name}
use Rattle.html_types.specs.Numbers.{count_of, without, place_of, put_in}
use Rattle.html_types.specs.declared.attributes.Attribute.{Attribute}
use Rattle.html_types.specs.declared.tree.Node.{Node}
use Rattle.html_types.specs.declared.tree.Kind.{Kind}
use Rattle.html_types.specs.declared.tree.Kind.TheVariants.{Document, Contents, Element, Text}

abbrev pub Nodes : Type 0
Nodes = List Node

-- ---- reading a node

-- what a number that no node has stands for
abbrev pub no_node : Node
no_node = record { kind = Contents; parent = None; children = []; host = None; contents = None }

abbrev pub node_at : Nodes → ℕ → Node
node_at t n = slice_index_or t n no_node

abbrev pub kind_of : Nodes → ℕ → Kind
kind_of t n = (node_at t n).kind

abbrev pub parent_of : Nodes → ℕ → Option ℕ
parent_of t n = (node_at t n).parent

abbrev pub children_of : Nodes → ℕ → List ℕ
children_of t n = (node_at t n).children

-- the template whose contents the node is
abbrev pub host_of : Nodes → ℕ → Option ℕ
host_of t n = (node_at t n).host

abbrev pub contents_of : Nodes → ℕ → Option ℕ
contents_of t n = (node_at t n).contents

abbrev pub is_document : Kind → Bool
is_document Document = true
is_document _ = false

abbrev pub is_element : Kind → Bool
is_element (Element name attributes) = true
is_element _ = false

abbrev pub is_element_at : Nodes → ℕ → Bool
is_element_at t n = is_element (kind_of t n)

abbrev pub is_text : Kind → Bool
is_text (Text text) = true
is_text _ = false

abbrev pub text_of : Kind → List ℕ
text_of (Text text) = text
text_of _ = []

abbrev pub attributes_of : Kind → List Attribute
attributes_of (Element name attributes) = attributes
attributes_of _ = []

-- the value of an attribute
abbrev pub attribute : List ℕ → List Attribute → Option (List ℕ)
attribute name [] = None
attribute name (a ∷ as') = if same_text a.name name then Some a.value else attribute name as'

-- ---- what makes a list of nodes a tree

-- the node that n stands right under: a template for its contents, and else the parent
abbrev pub above_of : Nodes → ℕ → Option ℕ
above_of t n = option_or (host_of t n) (parent_of t n)

-- the node k steps above n
abbrev pub climb : (ℕ → Option ℕ) → ℕ → ℕ → Option ℕ
climb up zero n = Some n
climb up (suc k) n = option_and_then (climb up k) (up n)

-- whether the link leads to p
abbrev pub leads_to : Option ℕ → ℕ → Bool
leads_to None p = false
leads_to (Some q) p = q == p

pub record IsTree (t : Nodes) : Type 0 where
  -- a node stands once among the children of its parent, and among no other's
  pub kinship : (n p : ℕ) → count_of n (children_of t p) ≡ cond (leads_to (parent_of t n) p) 1 0
  -- a template and its contents know each other
  pub hosting : (n p : ℕ) → leads_to (contents_of t p) n ≡ leads_to (host_of t n) p
  -- contents have no parent
  pub apart : (n p : ℕ) → host_of t n ≡ Some p → parent_of t n ≡ None
  -- the Document stands under nothing
  pub document : above_of t 0 ≡ None
  -- nothing stands under itself: from each node the way up ends
  pub rooted : (n : ℕ) → n < length t → climb (above_of t) (length t) n ≡ None

-- what every change leaves: nodes keep their numbers, and contents their templates
pub record Keeps (old new : Nodes) : Type 0 where
  pub nodes : length old ≤ length new
  pub hosts : (n : ℕ) → n < length old → host_of new n ≡ host_of old n

-- a node that stands nowhere and has nothing under it
abbrev pub lone : Kind → Node
lone kind = record { kind = kind; parent = None; children = []; host = None; contents = None }

-- the Document alone
abbrev pub new_tree : Nodes
new_tree = lone Document ∷ []

-- ---- taking a node out and putting it somewhere (DOM 4.2.3 #mutation-algorithms, remove and
-- insert)

abbrev pub with_kind : Nodes → ℕ → Kind → Nodes
with_kind t n kind = slice_set t n (record (node_at t n) { kind = kind })

abbrev pub with_parent : Nodes → ℕ → Option ℕ → Nodes
with_parent t n u = slice_set t n (record (node_at t n) { parent = u })

abbrev pub with_children : Nodes → ℕ → List ℕ → Nodes
with_children t p cs = slice_set t p (record (node_at t p) { children = cs })

-- p's children are now cs and n's parent is u: nothing else changes
abbrev pub relinked : Nodes → ℕ → List ℕ → ℕ → Option ℕ → Nodes
relinked t p cs n u = with_parent (with_children t p cs) n u

-- n taken out of the children of its parent, if it has one
abbrev pub taken_out : Nodes → ℕ → Option ℕ → Nodes
taken_out t n None = t
taken_out t n (Some p) = relinked t p (without n (children_of t p)) n None

abbrev pub detached : Nodes → ℕ → Nodes
detached t n = taken_out t n (parent_of t n)

-- n, which has no parent, put among p's children, before one of them or last
abbrev pub put_under : Nodes → ℕ → ℕ → Option ℕ → Nodes
put_under t n p before = relinked t p (put_in (children_of t p) n before) n (Some p)

-- n, which is no contents, moved from wherever it stands
abbrev pub moved : Nodes → ℕ → ℕ → Option ℕ → Nodes
moved t n p before = put_under (detached t n) n p before

-- whether m is n or stands under it, as k steps up from m show
abbrev pub stands_in : (ℕ → Option ℕ) → ℕ → ℕ → ℕ → Bool
stands_in up zero m n = false
stands_in up (suc k) m n = (m == n) || unwrap_or (option_map (λ p. stands_in up k p n) (up m)) false

-- whether m is n or stands under it
abbrev pub lies_in : Nodes → ℕ → ℕ → Bool
lies_in t m n = stands_in (above_of t) (length t) m n

-- whether nothing stands under n
abbrev pub is_leaf : Nodes → ℕ → Bool
is_leaf t n = (length (children_of t n) == 0) && not (is_some (contents_of t n))

abbrev pub is_other_element : Nodes → ℕ → ℕ → Bool
is_other_element t n c = not (c == n) && is_element_at t c

-- whether p is a Document that has an element other than n, and n is one too
abbrev pub is_second_element : Nodes → ℕ → ℕ → Bool
is_second_element t n p =
    is_document (kind_of t p) && is_element_at t n && list_any (is_other_element t n) (children_of t p)

-- whether n can't be put among p's children
abbrev pub is_impossible : Nodes → ℕ → ℕ → Bool
is_impossible t n p = lies_in t p n || is_second_element t n p

-- what a put leaves
abbrev pub put_of : Nodes → ℕ → ℕ → Option ℕ → Nodes
put_of t n p before = if is_impossible t n p then t else moved t n p before

-- the same just before b, which has a parent: a node stays where it is before itself
abbrev pub is_impossible_before : Nodes → ℕ → ℕ → Bool
is_impossible_before t n b = not (n == b) && is_impossible t n (unwrap_or (parent_of t b) 0)

abbrev pub put_before_of : Nodes → ℕ → ℕ → Nodes
put_before_of t n b = if n == b then t else put_of t n (unwrap_or (parent_of t b) 0) (Some b)

-- nodes put one by one at the end of p's children: one that can't be put there stays where it is
abbrev pub all_put : Nodes → List ℕ → ℕ → Nodes
all_put t [] p = t
all_put t (c ∷ cs) p = all_put (put_of t c p None) cs p

-- the children of a node put at the end of p's, in order
abbrev pub children_moved : Nodes → ℕ → ℕ → Nodes
children_moved t from p = all_put t (children_of t from) p

-- nodes taken out one by one
abbrev pub all_out : Nodes → List ℕ → Nodes
all_out t [] = t
all_out t (c ∷ cs) = all_out (detached t c) cs

-- a node without its children
unfoldable pub emptied : Nodes → ℕ → Nodes
emptied t p = all_out t (children_of t p)

-- The tree with the second node last among the first one's children
-- (DOM 4.2.6 #interface-parentnode, append): none where either isn't there, or where the first is
-- the second or stands under it.
abbrev pub appended : Nodes → Option ℕ → Option ℕ → Option Nodes
appended t (Some p) (Some n) = if lies_in t p n then None else Some (moved t n p None)
appended t (Some p) None = None
appended t None n = None

-- ---- new nodes, and text that joins a Text (13.2.6.1 #creating-and-inserting-nodes, insert a
-- character and insert a comment)

-- n, which has no parent, put at a place among p's children
abbrev pub inserted : Nodes → ℕ → ℕ → ℕ → Nodes
inserted t n p place = relinked t p (insert (children_of t p) place n) n (Some p)

-- a new node there
abbrev pub with_new : Nodes → ℕ → ℕ → Kind → Nodes
with_new t p place kind = inserted (t ++ lone kind ∷ []) (length t) p place

-- a Text with more text behind its own
abbrev pub with_more : Kind → List ℕ → Kind
with_more (Text text) more = Text (text ++ more)
with_more kind more = kind

-- the Text just before a place among p's children, if there is one
abbrev pub text_before : Nodes → ℕ → ℕ → Option ℕ
text_before t p place =
    let m = slice_index (children_of t p) (place - 1) in
    if nat_lt 0 place && is_text (kind_of t m) then Some m else None

-- the text joined to that one, or else in a new Text
abbrev pub text_put : Nodes → ℕ → ℕ → List ℕ → Option ℕ → Nodes
text_put t p place text (Some m) = with_kind t m (with_more (kind_of t m) text)
text_put t p place text None = with_new t p place (Text text)

-- the text at a place among p's children: a Document takes none, and an empty text leaves all as it is
abbrev pub text_added : Nodes → ℕ → ℕ → List ℕ → Nodes
text_added t p place [] = t
text_added t p place (c ∷ cs) = if is_document (kind_of t p) then t else text_put t p place (c ∷ cs) (text_before t p place)

-- ---- attributes that an element lacks (13.2.6.4.7 #parsing-main-inbody, the start tags html and
-- body)

-- the attributes with those of the second list whose names they lack, in order
abbrev pub add_attributes : List Attribute → List Attribute → List Attribute
add_attributes as' [] = as'
add_attributes as' (b ∷ bs) = add_attributes (if has_name b.name as' then as' else as' ++ b ∷ []) bs

abbrev pub with_lacking : Kind → List Attribute → Kind
with_lacking (Element name attributes) more = Element name (add_attributes attributes more)
with_lacking kind more = kind

abbrev pub attributes_added : Nodes → ℕ → List Attribute → Nodes
attributes_added t n more = with_kind t n (with_lacking (kind_of t n) more)

-- ---- readers

-- the nodes that a text shows under n: its children, or for a template those of its contents
abbrev pub shown_of : Nodes → ℕ → List ℕ
shown_of t n = children_of t (unwrap_or (contents_of t n) n)

-- what f makes of n out of what it makes of each node below n, k nodes deep
abbrev pub fold_nodes : {X : Type 0} → (ℕ → List X → X) → X → (ℕ → List ℕ) → ℕ → ℕ → X
fold_nodes f e below zero n = e
fold_nodes f e below (suc k) n = f n (map (fold_nodes f e below k) (below n))

-- n and all under it, in tree order
abbrev pub order : Nodes → ℕ → List ℕ
order t n = fold_nodes (λ n parts. n ∷ concat parts) [] (children_of t) (length t) n

-- what comes after a child of the parent and all under it: its later siblings, and then what comes after the parent
abbrev pub after_under : Nodes → (ℕ → List ℕ) → ℕ → Option ℕ → List ℕ
after_under t up n None = []
after_under t up n (Some p) = concat (map (order t) (drop (place_of (children_of t p) (Some n) + 1) (children_of t p))) ++ up p

abbrev pub after_all : Nodes → ℕ → ℕ → List ℕ
after_all t zero n = []
after_all t (suc k) n = after_under t (after_all t k) n (parent_of t n)

-- what comes after n in tree order
abbrev pub after_node : Nodes → ℕ → List ℕ
after_node t n = concat (map (order t) (children_of t n)) ++ after_all t (length t) n

abbrev pub first_of : List ℕ → Option ℕ
first_of [] = None
first_of (x ∷ xs) = Some x

abbrev pub last_of : List ℕ → Option ℕ
last_of [] = None
last_of (x ∷ xs) = Some (slice_index (x ∷ xs) (length xs))

-- the sibling just before n
abbrev pub previous_of : Nodes → ℕ → Option ℕ → Option ℕ
previous_of t n None = None
previous_of t n (Some p) =
    let place = place_of (children_of t p) (Some n) in
    if nat_lt 0 place then Some (slice_index (children_of t p) (place - 1)) else None

-- whether n is in the Document (DOM 4.2.2 #shadow-trees, connected)
unfoldable pub is_connected : Nodes → ℕ → Bool
is_connected t n = stands_in (parent_of t) (length t) n 0

-- the Document's element (DOM 4.5 #interface-document, documentElement)
unfoldable pub first_element : Nodes → Option ℕ
first_element t = find (is_element_at t) (children_of t 0)

abbrev pub is_value : List ℕ → Option (List ℕ) → Bool
is_value text None = false
is_value text (Some value) = same_text value text

-- whether n is an element with that `id`
abbrev pub has_id : Nodes → List ℕ → ℕ → Bool
has_id t text n = is_value text (attribute (codes "id") (attributes_of (kind_of t n)))

-- the first element of the Document, in tree order, with that `id`, which isn't empty
-- (DOM 4.2.4 #interface-nonelementparentnode, getElementById)
unfoldable pub find_id : Nodes → List ℕ → Option ℕ
find_id t [] = None
find_id t (c ∷ cs) = find (has_id t (c ∷ cs)) (order t 0)

-- the texts of n's Text children, joined (DOM 4.4 #interface-node, child text content)
unfoldable pub script_text : Nodes → ℕ → List ℕ
script_text t n = concat (map (λ c. text_of (kind_of t c)) (children_of t n))

-- ---- templates

-- a new template and then its contents
abbrev pub with_template : Nodes → Kind → Nodes
with_template t kind = (t ++ (record (lone kind) { contents = Some (length t + 1) }) ∷ []) ++ (record (lone Contents) { host = Some (length t) }) ∷ []
