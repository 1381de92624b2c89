-- The nodes of a fragment (13.4 #parsing-html-fragments) have no id. So no operation that comes
-- names one, and no script at whose end tag the parser stops is one.
use Rattle.std.specs.Prelude.{◌≡◌, ◌≢◌, ◌<◌, ◌≤◌, ℕ, Bool, IsTrue, List, length, Option, Some}
use Rattle.html_types.specs.declared.ending.Ending.{Ending}
use Rattle.html_types.specs.declared.instruction.Stop.TheVariants as stop
use Rattle.html_types.specs.declared.operation.NodeId.{NodeId}
use Rattle.html_types.specs.declared.operation.Op.{Op}
use Rattle.standard.specs.Entities.{Entities}
use Rattle.standard.specs.Act.{Doc, bound_to, node_of, is_bound, acts}
use Rattle.standard.specs.Fragment.{filled}
use Rattle.standard.specs.Parser.{Parser, parse}
use Rattle.serial.specs.declared.script.Statement.{Statement}
use Rattle.serial.specs.Serial.{World, Serial, Course, goes, refuses, starved, execute, run_statements, Moment, tag_ended, Leads}
use Rattle.rule_laws.specs.Naming.{Serves, AreFresh}
use Rattle.act_laws.specs.Bindings.{BindsElements}
use Rattle.moment_laws.specs.Served.{state_at, IsServedAt}

-- a node of the tree for which no id stands
pub record IsUnnamed (d : Doc) (m : ℕ) : Type 0 where
  pub here : m < length d.tree
  pub unnamed : (id : NodeId) → bound_to d.bound id ≢ Some m

-- such are a fragment's nodes
abbrev pub FragmentsAreUnnamed : Type 0
FragmentsAreUnnamed =
    (d : Doc) (n : ℕ) (form : Bool) (ops : List Op) → BindsElements d → (m : ℕ) → length d.tree ≤ m → m < length (filled d.tree n form ops) →
    IsUnnamed (record d { tree = filled d.tree n form ops }) m

-- ---- and such they stay

-- whatever operations are done
abbrev pub OperationsKeepUnnamed : Type 0
OperationsKeepUnnamed = (d : Doc) (ops : List Op) (m : ℕ) → IsUnnamed d m → IsUnnamed (acts d ops) m

abbrev pub IsUnnamedBehind : ℕ → Course → Type 0
IsUnnamedBehind m starved = Unit {0}
IsUnnamedBehind m (goes s) = IsUnnamed s.side.doc m
IsUnnamedBehind m (refuses w s) = IsUnnamed s.side.doc m

-- whatever a script does, with the texts that it writes and the scripts in them
abbrev pub ScriptsKeepUnnamed : Type 0
ScriptsKeepUnnamed = (n : ℕ) (w : World) (text : Option (List Statement)) (s : Serial) (m : ℕ) → IsUnnamed s.side.doc m → IsUnnamedBehind m (execute n w text s)

-- so behind the statement that set the fragment
abbrev pub StatementsKeepUnnamed : Type 0
StatementsKeepUnnamed = (n : ℕ) (w : World) (k : ℕ) (list : List Statement) (s : Serial) (m : ℕ) → IsUnnamed s.side.doc m → IsUnnamedBehind m (run_statements n w k list s)

-- from moment to moment
abbrev pub MomentsKeepUnnamed : Type 0
MomentsKeepUnnamed = (e : Ending) (w : World) (a b : Moment) → Leads e w a b → (m : ℕ) → IsUnnamed (state_at a).side.doc m → IsUnnamed (state_at b).side.doc m

-- ---- no script that runs is such a node

-- wherever the parser stops, in the page or in a text that was written
abbrev pub StopsAreNamed : Type 0
StopsAreNamed =
    (d : Doc) (es : Entities) (p : Parser) (text : List ℕ) (i : NodeId) (m : ℕ) → Serves AreFresh (is_bound d.bound) p.open_state → (parse es p text).stop ≡ stop.Script i → IsUnnamed d m →
    node_of (acts d (parse es p text).ops).bound i ≢ m

-- at a moment at which a script's end tag was met, the script is one for which an id stands
abbrev pub IsTagNamed : Moment → Type 0
IsTagNamed (tag_ended i s) = IsTrue (is_bound s.side.doc.bound i)
IsTagNamed _ = Unit {0}

-- at the moments of the page
abbrev pub MomentsRunOthers : Type 0
MomentsRunOthers =
    (e : Ending) (w : World) (a : Moment) (i : NodeId) (s : Serial) → Leads e w a (tag_ended i s) → IsServedAt AreFresh a → IsTagNamed a → (m : ℕ) → IsUnnamed (state_at a).side.doc m →
    node_of s.side.doc.bound i ≢ m
