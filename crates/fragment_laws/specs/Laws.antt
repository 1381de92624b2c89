-- What setting an element's children to a fragment (13.4 #parsing-html-fragments) does to a tree.
use Rattle.std.specs.Prelude.{◌≡◌, ◌≢◌, ◌<◌, ℕ, suc, ◌+◌, Bool, false, List, [], ◌∷◌, length, map, Some, None}
use Rattle.std.specs.Option.{option_map}
use Rattle.html_types.specs.declared.ending.Why.TheVariants as why
use Rattle.html_types.specs.declared.operation.Op.{Op}
use Rattle.html_types.specs.declared.tree.Node.{Node}
use Rattle.standard.specs.Entities.{Entities}
use Rattle.standard.specs.Tree.{Nodes, IsTree, new_tree, node_at, kind_of, parent_of, children_of, is_document, find_id}
use Rattle.standard.specs.Act.{Doc, node_of, end_of, is_bound, AreOpsBound}
use Rattle.standard.specs.Fragment.{root_id, fragment, context_at, with_fragment, filled, too_deep, setting, inner_set}
use Rattle.serial.specs.declared.script.Statement.{Statement}
use Rattle.serial.specs.declared.script.Statement.TheVariants as statement
use Rattle.serial.specs.Serial.{World, Serial, tree_of, with_tree, refuses, run_statements}

-- the node whose children are set: of a template, its contents
abbrev pub target_of : Nodes → ℕ → ℕ
target_of t n = (end_of t n).parent

-- a fragment's own ids are bound, where its roots are made
abbrev pub AreOwn : Nodes → Bool → List Op → Type 0
AreOwn t form ops = AreOpsBound (is_bound (with_fragment t form []).bound) ops

-- ---- the nodes that there were

-- the fragment's nodes are made behind those of the tree, which stay as they are
abbrev pub NodesStay : Type 0
NodesStay = (t : Nodes) (form : Bool) (ops : List Op) → AreOwn t form ops → (m : ℕ) → m < length t → node_at (with_fragment t form ops).tree m ≡ node_at t m

-- Of the nodes that there were, the target's children alone are others, and those that it had have no parent: they keep their own children.
pub record TouchesTarget (t s : Nodes) (p : ℕ) : Type 0 where
  pub others : (m : ℕ) → m < length t → m ≢ p → parent_of t m ≢ Some p → node_at s m ≡ node_at t m
  pub taken : (m : ℕ) → m < length t → parent_of t m ≡ Some p → node_at s m ≡ record (node_at t m) { parent = None }
  pub target : node_at s p ≡ record (node_at t p) { children = children_of s p }

abbrev pub OthersStand : Type 0
OthersStand =
    (t : Nodes) (n : ℕ) (form : Bool) (ops : List Op) → IsTree t → n < length t → AreOwn t form ops → TouchesTarget t (filled t n form ops) (target_of t n)

-- ---- the fragment's nodes

-- the fragment in a document of its own
abbrev pub alone : Bool → List Op → Doc
alone form ops = with_fragment new_tree form ops

-- its root, whose children are the trees of the fragment
abbrev pub root_in : Doc → ℕ
root_in d = node_of d.bound (root_id 0)

-- so many numbers further on
abbrev pub further : ℕ → ℕ → ℕ
further k n = n + k

-- a node whose links lead there
abbrev pub shifted : ℕ → Node → Node
shifted k x = record {
  kind = x.kind;
  parent = option_map (further k) x.parent;
  children = map (further k) x.children;
  host = option_map (further k) x.host;
  contents = option_map (further k) x.contents;
}

-- behind the nodes of a tree a fragment's are made as they are in a document of their own, behind the Document
abbrev pub MadeAsAlone : Type 0
MadeAsAlone =
    (t : Nodes) (k : ℕ) (form : Bool) (ops : List Op) → length t ≡ suc k → AreOwn t form ops →
    (m : ℕ) → 0 < m → node_at (with_fragment t form ops).tree (m + k) ≡ shifted k (node_at (alone form ops).tree m)

-- the children of a node are those of a fragment's root, in order, and under them stands all that stands under those
pub record HoldsFragment (d : Doc) (k : ℕ) (s : Nodes) (p : ℕ) : Type 0 where
  pub children : children_of s p ≡ map (further k) (children_of d.tree (root_in d))
  pub first : (m : ℕ) → parent_of d.tree m ≡ Some (root_in d) → node_at s (m + k) ≡ record (shifted k (node_at d.tree m)) { parent = Some p }
  pub below : (m : ℕ) → 0 < m → m ≢ root_in d → parent_of d.tree m ≢ Some (root_in d) → node_at s (m + k) ≡ shifted k (node_at d.tree m)

-- The target's children are then those of the fragment in a document of its own.
abbrev pub TargetHolds : Type 0
TargetHolds =
    (t : Nodes) (k n : ℕ) (form : Bool) (ops : List Op) → length t ≡ suc k → IsTree t → n < length t → is_document (kind_of t (target_of t n)) ≡ false → AreOwn t form ops →
    HoldsFragment (alone form ops) k (filled t n form ops) (target_of t n)

-- ---- the statement

-- The tree that it leaves: the children are those of the fragment with the element as its context, and all else is as it was.
pub record IsSet (es : Entities) (quirks : Bool) (t : Nodes) (k n : ℕ) (text : List ℕ) (s : Nodes) : Type 0 where
  pub ops : List Op
  pub parsed : fragment es (context_at t n quirks) text ≡ Some ops
  pub holds : HoldsFragment (alone (context_at t n quirks).form ops) k s (target_of t n)
  pub touches : TouchesTarget t s (target_of t n)

abbrev pub SetsChildren : Type 0
SetsChildren =
    (es : Entities) (quirks : Bool) (t : Nodes) (k n : ℕ) (text : List ℕ) (s : Nodes) → length t ≡ suc k → IsTree t → n < length t → is_document (kind_of t (target_of t n)) ≡ false →
    inner_set es quirks t (Some n) text ≡ setting s → IsSet es quirks t k n text s

-- it leaves another tree and nothing else, and goes on with the statements behind it
abbrev pub SetsTree : Type 0
SetsTree =
    (n : ℕ) (w : World) (k : ℕ) (v c : List ℕ) (list : List Statement) (s : Serial) (t : Nodes) →
    inner_set w.entities s.parser.open_state.quirks (tree_of s) (find_id (tree_of s) v) c ≡ setting t →
    run_statements (suc (suc n)) w k (statement.SetInner v c ∷ list) s ≡ run_statements n w k list (with_tree t s)

-- a fragment that would open element 513 refuses the page, and the state is as before
abbrev pub SetsTooDeep : Type 0
SetsTooDeep =
    (n : ℕ) (w : World) (k : ℕ) (v c : List ℕ) (list : List Statement) (s : Serial) →
    inner_set w.entities s.parser.open_state.quirks (tree_of s) (find_id (tree_of s) v) c ≡ too_deep →
    run_statements (suc (suc n)) w k (statement.SetInner v c ∷ list) s ≡ refuses why.Depth s
