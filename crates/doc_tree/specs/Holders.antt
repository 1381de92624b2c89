-- Who may have an id, by the index.
use Rattle.std.specs.Prelude.{◌≡◌, ℕ, if◌then◌else◌, List, Option, Some, None, codes}
use Rattle.std.specs.Str.{encode_utf8_all}
use Rattle.std.specs.Hash.FoldHasher.{initial, write, finish}
use Rattle.std.specs.Ordering.{nat_cmp}
use Rattle.std.specs.BTreeMap.{get}
use Rattle.standard.specs.Tree.{Nodes, kind_of, attributes_of, attribute}
use Rattle.doc_tree.specs.declared.ids.Holder.{Holder}
use Rattle.doc_tree.specs.declared.ids.Holder.TheVariants.{One, Several}
use Rattle.doc_tree.specs.declared.ids.Ids.{Ids}
use Rattle.text_store.specs.declared.lists.Store.{Store}
use Rattle.doc_tree.specs.Rows.{Rows, seen, IsLinked}

-- the number that an id comes to
unfoldable pub key_of : List ℕ → ℕ
key_of id = finish (write initial (encode_utf8_all id))

-- what the index says of an id
abbrev pub held : Ids → List ℕ → Option Holder
held ids id = if ids.lost then Some Several else get nat_cmp ids.holders (key_of id)

-- the node may have the id of which this is said
abbrev pub MayHold : Option Holder → ℕ → Type 0
MayHold None n = ⊥
MayHold (Some (One m)) n = m ≡ n
MayHold (Some Several) n = Unit {0}

-- the index knows that the node may have this id, if it is one
abbrev pub IsTold : Ids → Option (List ℕ) → ℕ → Type 0
IsTold ids given n = (id : List ℕ) → given ≡ Some id → MayHold (held ids id) n

-- who might have an id still may
abbrev pub KeepsHolders : Ids → Ids → Type 0
KeepsHolders ids ids' = (id : List ℕ) (n : ℕ) → MayHold (held ids id) n → MayHold (held ids' id) n

-- the node's id
abbrev pub id_of : Nodes → ℕ → Option (List ℕ)
id_of t n = attribute (codes "id") (attributes_of (kind_of t n))

-- the index knows of each node that has an id
abbrev pub AllTold : Ids → Nodes → Type 0
AllTold ids t = (n : ℕ) → IsTold ids (id_of t n) n

-- the links are those of the lists of children, and the index knows all ids
pub record IsKept (store : Store) (r : Rows) (ids : Ids) : Type 0 where
  pub linked : IsLinked store r
  pub told : AllTold ids (seen store r)
