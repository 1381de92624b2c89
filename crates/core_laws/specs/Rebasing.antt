-- A renaming that is changed for the ids to come.
use Rattle.std.specs.Prelude.{◌≡◌, ◌≢◌, ◌<◌, ◌+◌, ◌-◌, ◌==◌, nat_lt, ℕ, Bool, true, false}
use Rattle.html_types.specs.Operations.{later}
use Rattle.html_types.specs.declared.operation.NodeId.{NodeId}
use Rattle.standard.specs.Act.{Doc}
use Rattle.standard.specs.Parser.{Parser}
use Rattle.rule_laws.specs.Naming.{rename_parser}
use Rattle.core_laws.specs.Alike.{Okay}

abbrev pub with_next : NodeId → Parser → Parser
with_next id p = record p { open_state = record p.open_state { next = id } }

-- ids of the serial parse (all in realm 0) that were given before the n-th keep their names; those to come go on from next; ids that never occur have realms of their own
abbrev pub part : (NodeId → NodeId) → ℕ → NodeId → ℕ → Bool → Bool → NodeId → NodeId
part r n next low true true i = r i
part r n next low true false i = record { realm = next.realm; n = next.n + (i.n - n) }
part r n next low false before i = record { realm = low + i.realm; n = i.n }

abbrev pub rebased : (NodeId → NodeId) → ℕ → NodeId → ℕ → NodeId → NodeId
rebased r n next low i = part r n next low (i.realm == 0) (nat_lt i.n n) i

pub record Rebases (r : NodeId → NodeId) (n : ℕ) (next : NodeId) (low : ℕ) : Type 0 where
  pub one_to_one : (a b : NodeId) → r a ≡ r b → a ≡ b
  -- the ids of the serial realm have names in realms below low
  pub low_realms : (i : NodeId) → i.realm ≡ 0 → (r i).realm < low
  pub next_is_low : next.realm < low
  -- no name of an id that was given is one of those to come
  pub avoids : (i : NodeId) (k : ℕ) → i.realm ≡ 0 → i.n < n → r i ≢ later k next

-- The second state goes on with other ids to come, and is the first under the changed renaming.
abbrev pub StatesRebase : Type 0
StatesRebase =
    (r : NodeId → NodeId) (p : Parser) (d own : Doc) (next : NodeId) (low : ℕ) → Okay r p d own → Rebases r p.open_state.next.n next low →
    let g : NodeId → NodeId = rebased r p.open_state.next.n next low in
    (with_next next (rename_parser r p) ≡ rename_parser g p) × Okay g p d own
