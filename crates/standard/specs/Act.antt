-- What an operation does to a document, whenever it was asked for: all of it is decided on the tree as it is then.
use Rattle.std.specs.Prelude.{◌≡◌, ℕ, Bool, false, ◌||◌, is_some, IsTrue, List, [], ◌∷◌, ◌++◌, length, Option, Some, None, unwrap_or, if◌then◌else◌}
use Rattle.std.specs.Ordering.{nat_cmp, ordering_then}
use Rattle.std.specs.declared.cmp.Ordering.{Ordering}
use Rattle.std.specs.Map.{lookup}
use Rattle.std.specs.BTreeMap.{is_at, insert_entry}
use Rattle.html_types.specs.Numbers.{place_of}
use Rattle.html_types.specs.Operations.{same_id}
use Rattle.html_types.specs.declared.attributes.Attribute.{Attribute}
use Rattle.html_types.specs.declared.word.Word.TheVariants.{Template}
use Rattle.html_types.specs.declared.name.Name.{Name}
use Rattle.html_types.specs.declared.operation.NodeId.{NodeId}
use Rattle.html_types.specs.declared.operation.Place.{Place}
use Rattle.html_types.specs.declared.operation.Place.TheVariants.{Page, Inside, Contents, Foster}
use Rattle.html_types.specs.declared.operation.Op.{Op}
use Rattle.html_types.specs.declared.operation.Op.TheVariants.{Make, Put, Text, Comment, Doctype, Detach, MoveChildren, AddAttributes}
use Rattle.html_types.specs.declared.tree.Kind.{Kind}
use Rattle.html_types.specs.declared.tree.Kind.TheVariants as kind
use Rattle.standard.specs.Elements.{is_word}
use Rattle.standard.specs.Tree.{Nodes, new_tree, parent_of, children_of, contents_of, lone, with_template, put_of, put_before_of, detached, children_moved, with_new, text_added, attributes_added}

-- ---- which node each id stands for

-- by realm, and then by number
abbrev pub id_cmp : NodeId → NodeId → Ordering
id_cmp a b = ordering_then (nat_cmp a.realm b.realm) (nat_cmp a.n b.n)

abbrev pub Bound : Type 0
Bound = List (NodeId × ℕ)

abbrev pub bound_to : Bound → NodeId → Option ℕ
bound_to bound id = lookup (is_at (id_cmp id)) bound

-- the node of an id that is bound
abbrev pub node_of : Bound → NodeId → ℕ
node_of bound id = unwrap_or (bound_to bound id) 0

-- a tree and what ids name in it
pub record Doc : Type 0 where
  pub tree : Nodes
  pub bound : Bound

abbrev pub new_doc : Doc
new_doc = record { tree = new_tree; bound = [] }

-- ---- places (13.2.6.1 #creating-and-inserting-nodes, the appropriate place for inserting a node)

-- among the children of a node, just before one of them or at their end
pub record Spot : Type 0 where
  pub parent : ℕ
  pub before : Option ℕ

-- the end of a node; of a template, the end of its contents
abbrev pub end_of : Nodes → ℕ → Spot
end_of t n = record { parent = unwrap_or (contents_of t n) n; before = None }

-- just before a child of p; where p is a template, the end of its contents
abbrev pub before_in : ℕ → ℕ → Option ℕ → Spot
before_in p child None = record { parent = p; before = Some child }
before_in p child (Some contents) = record { parent = contents; before = None }

-- just before the table where it has a parent, and else the end of the element above it in the stack
abbrev pub foster_spot : Nodes → ℕ → ℕ → Option ℕ → Spot
foster_spot t table above None = end_of t above
foster_spot t table above (Some p) = before_in p table (contents_of t p)

abbrev pub spot_of : Doc → Place → Spot
spot_of d Page = end_of d.tree 0
spot_of d (Inside id) = end_of d.tree (node_of d.bound id)
spot_of d (Contents id) = end_of d.tree (node_of d.bound id)
spot_of d (Foster table above) = foster_spot d.tree (node_of d.bound table) (node_of d.bound above) (parent_of d.tree (node_of d.bound table))

-- ---- operations

-- a new element, which stands nowhere and has the next number; a template is made with its contents
-- (4.12.3 #the-template-element, the template element)
abbrev pub element_made : Nodes → Name → List Attribute → Nodes
element_made t name attributes =
    if is_word Template name then with_template t (kind.Element name attributes) else t ++ lone (kind.Element name attributes) ∷ []

abbrev pub put_from : Nodes → ℕ → ℕ → Option ℕ → Nodes
put_from t n p None = put_of t n p None
put_from t n p (Some b) = put_before_of t n b

abbrev pub put_at : Nodes → ℕ → Spot → Nodes
put_at t n spot = put_from t n spot.parent spot.before

-- a new node
abbrev pub new_at : Nodes → Kind → Spot → Nodes
new_at t kind spot = with_new t spot.parent (place_of (children_of t spot.parent) spot.before) kind

abbrev pub text_at : Nodes → List ℕ → Spot → Nodes
text_at t text spot = text_added t spot.parent (place_of (children_of t spot.parent) spot.before) text

unfoldable pub act : Doc → Op → Doc
act d (Make id name attributes) = record { tree = element_made d.tree name attributes; bound = insert_entry id_cmp d.bound id (length d.tree) }
act d (Put id place) = record d { tree = put_at d.tree (node_of d.bound id) (spot_of d place) }
act d (Text place text) = record d { tree = text_at d.tree text (spot_of d place) }
act d (Comment place text) = record d { tree = new_at d.tree (kind.Comment text) (spot_of d place) }
act d (Doctype name) = record d { tree = new_at d.tree (kind.Doctype name) (end_of d.tree 0) }
act d (Detach id) = record d { tree = detached d.tree (node_of d.bound id) }
act d (MoveChildren from to) = record d { tree = children_moved d.tree (node_of d.bound from) (end_of d.tree (node_of d.bound to)).parent }
act d (AddAttributes id attributes) = record d { tree = attributes_added d.tree (node_of d.bound id) attributes }

unfoldable pub acts : Doc → List Op → Doc
acts d [] = d
acts d (o ∷ os) = acts (act d o) os

-- ---- which operations have all their ids bound; `known` tells which are

abbrev pub is_bound : Bound → NodeId → Bool
is_bound bound id = is_some (bound_to bound id)

abbrev pub IsPlaceBound : (NodeId → Bool) → Place → Type 0
IsPlaceBound known Page = Unit {0}
IsPlaceBound known (Inside id) = IsTrue (known id)
IsPlaceBound known (Contents id) = IsTrue (known id)
IsPlaceBound known (Foster table above) = IsTrue (known table) × IsTrue (known above)

-- the ids that the operation names are bound, and a new element's isn't
abbrev pub IsOpBound : (NodeId → Bool) → Op → Type 0
IsOpBound known (Make id name attributes) = known id ≡ false
IsOpBound known (Put id place) = IsTrue (known id) × IsPlaceBound known place
IsOpBound known (Text place text) = IsPlaceBound known place
IsOpBound known (Comment place text) = IsPlaceBound known place
IsOpBound known (Doctype name) = Unit {0}
IsOpBound known (Detach id) = IsTrue (known id)
IsOpBound known (MoveChildren from to) = IsTrue (known from) × IsTrue (known to)
IsOpBound known (AddAttributes id attributes) = IsTrue (known id)

-- which ids are bound once the operation is done
abbrev pub known_after : (NodeId → Bool) → Op → NodeId → Bool
known_after known (Make id name attributes) = λ q. same_id q id || known q
known_after known _ = known

unfoldable pub AreOpsBound : (NodeId → Bool) → List Op → Type 0
AreOpsBound known [] = Unit {0}
AreOpsBound known (o ∷ os) = IsOpBound known o × AreOpsBound (known_after known o) os

-- ---- the same under other ids

abbrev pub rename_place : (NodeId → NodeId) → Place → Place
rename_place r Page = Page
rename_place r (Inside id) = Inside (r id)
rename_place r (Contents id) = Contents (r id)
rename_place r (Foster table above) = Foster (r table) (r above)

abbrev pub rename_op : (NodeId → NodeId) → Op → Op
rename_op r (Make id name attributes) = Make (r id) name attributes
rename_op r (Put id place) = Put (r id) (rename_place r place)
rename_op r (Text place text) = Text (rename_place r place) text
rename_op r (Comment place text) = Comment (rename_place r place) text
rename_op r (Doctype name) = Doctype name
rename_op r (Detach id) = Detach (r id)
rename_op r (MoveChildren from to) = MoveChildren (r from) (r to)
rename_op r (AddAttributes id attributes) = AddAttributes (r id) attributes

-- one tree, its nodes under other ids
pub record SameUpTo (r : NodeId → NodeId) (d d' : Doc) : Type 0 where
  pub tree : d'.tree ≡ d.tree
  pub bound : (id : NodeId) → bound_to d'.bound (r id) ≡ bound_to d.bound id
