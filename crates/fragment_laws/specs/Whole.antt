-- The states that the serial parse passes through: their documents are trees, and what their ids stand for. So the laws of the statement that sets
-- an element's children hold wherever it runs.
use Rattle.std.specs.Prelude.{◌≡◌, ◌≢◌, ◌<◌, ◌≤◌, ◌-◌, ◌==◌, ℕ, true, List, ◌∷◌, length, Some, None}
use Rattle.standard.specs.Tree.{Nodes, IsTree, kind_of, host_of, is_document, is_element_at, find_id}
use Rattle.standard.specs.Act.{Doc, node_of, is_bound}
use Rattle.standard.specs.Fragment.{setting, inner_set}
use Rattle.serial.specs.declared.script.Statement.{Statement}
use Rattle.serial.specs.declared.script.Statement.TheVariants as statement
use Rattle.serial.specs.Page.{Page}
use Rattle.serial.specs.Serial.{World, Serial, tree_of, with_tree, Moment, Passes}
use Rattle.rule_laws.specs.Naming.{Serves, AreFresh}
use Rattle.act_laws.specs.Bindings.{BindsElements}
use Rattle.moment_laws.specs.Served.{state_at}
use Rattle.fragment_laws.specs.Laws.{IsSet}
use Rattle.fragment_laws.specs.Unnamed.{IsUnnamed}
use Rattle.fragment_laws.specs.Visits.{Visit, statements_at, tag_at, InStatements, InMoment, AtEach}

-- the nodes are a tree; the first is the Document, and no other is one; no element is a template's contents; ids stand for elements, no two for one
pub record IsWhole (d : Doc) : Type 0 where
  pub tree : IsTree d.tree
  pub documents : (n : ℕ) → is_document (kind_of d.tree n) ≡ (n == 0)
  pub elements : (n : ℕ) → is_element_at d.tree n ≡ true → host_of d.tree n ≡ None
  pub binds : BindsElements d

-- and all ids that the parser holds are bound, and none of those to come
pub record IsWholeAt (s : Serial) : Type 0 where
  pub doc : IsWhole s.side.doc
  pub served : Serves AreFresh (is_bound s.side.doc.bound) s.parser.open_state

-- such is the state at each moment
abbrev pub MomentsAreWhole : Type 0
MomentsAreWhole = (page : Page) (w : World) (m : Moment) → Passes page w m → IsWholeAt (state_at m)

-- and wherever a script runs, also one in a text that was written
abbrev pub IsWholeThere : Visit → Type 0
IsWholeThere (statements_at k list s) = IsWholeAt s
IsWholeThere (tag_at i s) = IsWholeAt s

abbrev pub ScriptsAreWhole : Type 0
ScriptsAreWhole = (page : Page) (w : World) → AtEach IsWholeThere page w

-- ---- the statement, wherever it runs

-- the children of the element that it finds are those of the fragment, all else is as it was, and for none of the fragment's nodes an id stands
pub record SetsThere (w : World) (s : Serial) (n : ℕ) (text : List ℕ) (t : Nodes) : Type 0 where
  pub is_set : IsSet w.entities s.parser.open_state.quirks (tree_of s) (length (tree_of s) - 1) n text t
  pub unnamed : (m : ℕ) → length (tree_of s) ≤ m → m < length t → IsUnnamed (with_tree t s).side.doc m

abbrev pub SetsWell : World → Visit → Type 0
SetsWell w (statements_at k (statement.SetInner v text ∷ list) s) =
    (n : ℕ) (t : Nodes) → find_id (tree_of s) v ≡ Some n → inner_set w.entities s.parser.open_state.quirks (tree_of s) (Some n) text ≡ setting t → SetsThere w s n text t
SetsWell w _ = Unit {0}

abbrev pub StatementsSet : Type 0
StatementsSet = (page : Page) (w : World) → AtEach (SetsWell w) page w

-- ---- no script of a fragment runs

-- a node for which no id stands is none whose end tag is met
abbrev pub RunsOther : Visit → Type 0
RunsOther (statements_at k list s) = Unit {0}
RunsOther (tag_at i s) = (m : ℕ) → IsUnnamed s.side.doc m → node_of s.side.doc.bound i ≢ m

abbrev pub TagsAreOthers : Type 0
TagsAreOthers = (page : Page) (w : World) → AtEach RunsOther page w

-- and it stays one at all that a script comes to
abbrev pub IsUnnamedThere : ℕ → Visit → Type 0
IsUnnamedThere m (statements_at k list s) = IsUnnamed s.side.doc m
IsUnnamedThere m (tag_at i s) = IsUnnamed s.side.doc m

abbrev pub StatementsStayUnnamed : Type 0
StatementsStayUnnamed = (n : ℕ) (w : World) (k : ℕ) (list : List Statement) (s : Serial) (m : ℕ) → IsUnnamed s.side.doc m → InStatements (IsUnnamedThere m) n w k list s

abbrev pub MomentsStayUnnamed : Type 0
MomentsStayUnnamed = (n : ℕ) (w : World) (a : Moment) (m : ℕ) → IsUnnamed (state_at a).side.doc m → InMoment (IsUnnamedThere m) n w a
