-- What lists by realm say that ids stand for.
use Rattle.std.specs.Prelude.{◌≡◌, ℕ, ◌+◌, ◌&&◌, ◌==◌, nat_lt, List, [], ◌∷◌, length, slice_index_or, Option, Some, None, if◌then◌else◌}
use Rattle.std.specs.BTreeMap.{insert_entry}
use Rattle.html_types.specs.declared.operation.NodeId.{NodeId}
use Rattle.op_exec.specs.declared.bound.Realm.{Realm}
use Rattle.standard.specs.Act.{Bound, id_cmp}

-- the pairs with those of a realm's nodes, the first of which is the n-th
abbrev pub with_nodes : ℕ → ℕ → List ℕ → Bound → Bound
with_nodes realm n [] es = es
with_nodes realm n (x ∷ xs) es = insert_entry id_cmp (with_nodes realm (n + 1) xs es) (record { realm = realm; n = n }) x

-- the pairs with those of the realms
abbrev pub with_realms : List Realm → Bound → Bound
with_realms [] es = es
with_realms (r ∷ rs) es = with_nodes r.realm 0 r.nodes.items (with_realms rs es)

-- the node that the realms' lists name
abbrev pub listed : List Realm → NodeId → Option ℕ
listed [] id = None
listed (r ∷ rs) id = if r.realm == id.realm && nat_lt id.n (length r.nodes.items) then Some (slice_index_or r.nodes.items id.n 0) else listed rs id

-- the id comes next in the list of the i-th realm
abbrev pub IsNext : List Realm → NodeId → ℕ → Type 0
IsNext rs id i = (d : Realm) → ((slice_index_or rs i d).realm ≡ id.realm) × (length (slice_index_or rs i d).nodes.items ≡ id.n)
