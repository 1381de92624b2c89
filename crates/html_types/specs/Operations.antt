-- Ids, places, and lists of operations.
use Rattle.std.specs.Prelude.{ℕ, ◌+◌, ◌==◌, ◌&&◌, Bool, false, true, List, [], ◌∷◌, ◌++◌, map}
use Rattle.html_types.specs.declared.operation.NodeId.{NodeId}
use Rattle.html_types.specs.declared.operation.Place.{Place}
use Rattle.html_types.specs.declared.operation.Place.TheVariants.{Page, Inside, Contents, Foster}
use Rattle.html_types.specs.declared.operation.Op.{Op}
use Rattle.html_types.specs.declared.operation.Op.TheVariants as op

abbrev pub same_id : NodeId → NodeId → Bool
same_id a b = (a.realm == b.realm) && (a.n == b.n)

-- the id that comes so many later in the realm
abbrev pub later : ℕ → NodeId → NodeId
later k id = record id { n = id.n + k }

abbrev pub same_place : Place → Place → Bool
same_place Page Page = true
same_place (Inside a) (Inside b) = same_id a b
same_place (Contents a) (Contents b) = same_id a b
same_place (Foster a b) (Foster c d) = same_id a c && same_id b d
same_place _ _ = false

-- an operation with its text spelled out: the insertion of each character by itself
abbrev pub spelled_one : Op → List Op
spelled_one (op.Text place text) = map (λ c. op.Text place (c ∷ [])) text
spelled_one o = o ∷ []

unfoldable pub spelled : List Op → List Op
spelled [] = []
spelled (o ∷ os) = spelled_one o ++ spelled os
