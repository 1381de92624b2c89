-- Operations whose texts and attributes lie in one store.
use Rattle.std.specs.Prelude.{◌≡◌, true, List, [], ◌∷◌, map}
use Rattle.std.specs.Str.{chars}
use Rattle.html_types.specs.declared.tree.Kind.{Kind}
use Rattle.html_types.specs.declared.tree.Kind.TheVariants as kind
use Rattle.html_types.specs.declared.operation.NodeId.{NodeId}
use Rattle.html_types.specs.declared.operation.Op.{Op}
use Rattle.html_types.specs.declared.operation.Op.TheVariants as op
use Rattle.standard.specs.Tree.{is_element, attributes_of}
use Rattle.text_store.specs.declared.store.Spot.TheVariants.{Inside, Apart}
use Rattle.text_store.specs.declared.lists.Store.{Store}
use Rattle.text_store.specs.declared.ops.Record.{Record}
use Rattle.text_store.specs.declared.ops.Record.TheVariants as record_of
use Rattle.text_store.specs.declared.ops.SeenOp.{SeenOp}
use Rattle.text_store.specs.declared.ops.SeenOp.TheVariants as seen
use Rattle.text_store.specs.Stores.{text_at, Holds}
use Rattle.text_store.specs.Kinds.{kind_at, HoldsKind}
use Rattle.text_store.specs.Views.{seen_name}

-- the element is made
abbrev pub made_op : NodeId → Kind → Op
made_op id (kind.Element name list) = op.Make id name list
made_op id _ = op.Detach id

abbrev pub op_at : Store → Record → Op
op_at s (record_of.Make id k) = made_op id (kind_at s k)
op_at s (record_of.Put node place) = op.Put node place
op_at s (record_of.Text place p) = op.Text place (text_at s.texts (Inside p))
op_at s (record_of.TextApart place p) = op.Text place (text_at s.texts (Apart p))
op_at s (record_of.Comment place p) = op.Comment place (text_at s.texts (Inside p))
op_at s (record_of.Doctype p) = op.Doctype (text_at s.texts (Inside p))
op_at s (record_of.Detach node) = op.Detach node
op_at s (record_of.MoveChildren from to) = op.MoveChildren from to
op_at s (record_of.AddAttributes node k) = op.AddAttributes node (attributes_of (kind_at s k))

abbrev pub ops_at : Store → List Record → List Op
ops_at s rs = map (op_at s) rs

abbrev pub HoldsRecord : Store → Record → Type 0
HoldsRecord s (record_of.Make id k) = HoldsKind s k × (is_element (kind_at s k) ≡ true)
HoldsRecord s (record_of.Put node place) = Unit {0}
HoldsRecord s (record_of.Text place p) = Holds s.texts (Inside p)
HoldsRecord s (record_of.TextApart place p) = Holds s.texts (Apart p)
HoldsRecord s (record_of.Comment place p) = Holds s.texts (Inside p)
HoldsRecord s (record_of.Doctype p) = Holds s.texts (Inside p)
HoldsRecord s (record_of.Detach node) = Unit {0}
HoldsRecord s (record_of.MoveChildren from to) = Unit {0}
HoldsRecord s (record_of.AddAttributes node k) = HoldsKind s k × (is_element (kind_at s k) ≡ true)

abbrev pub HoldsRecords : Store → List Record → Type 0
HoldsRecords s [] = Unit {0}
HoldsRecords s (r ∷ rs) = HoldsRecord s r × HoldsRecords s rs

-- the operation lies there, and is this one
pub record MeansRecord (s : Store) (r : Record) (o : Op) : Type 0 where
  pub held : HoldsRecord s r
  pub is : op_at s r ≡ o

-- ---- as it is read

abbrev pub seen_op : SeenOp → Op
seen_op (seen.Make id name list) = op.Make id (seen_name name) list
seen_op (seen.Put node place) = op.Put node place
seen_op (seen.Text place text) = op.Text place (chars text.now)
seen_op (seen.Comment place text) = op.Comment place (chars text.now)
seen_op (seen.Doctype name) = op.Doctype (chars name.now)
seen_op (seen.Detach node) = op.Detach node
seen_op (seen.MoveChildren from to) = op.MoveChildren from to
seen_op (seen.AddAttributes node list) = op.AddAttributes node list
