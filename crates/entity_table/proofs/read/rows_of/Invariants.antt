use Rattle.std.proofs.Common.{◌≡◌, ◌++◌, option_map}
use Rattle.standard.specs.Entities.{Entities, entities_in}
use Rattle.serde_json.specs.View.{members_view}
use Rattle.entity_table.specs.View.{rows_in}
use Rattle.entity_table.proofs.read.rows_of.Given as goal

abbrev pub invariant-loop-name : goal.invariant-loop-name
invariant-loop-name l =
    option_map (λ (es : Entities). rows_in l.rows.items ++ es) (entities_in (members_view l.name-iterator)) ≡ entities_in (members_view l.fn.members.entries)
