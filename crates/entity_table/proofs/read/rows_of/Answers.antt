use Rattle.std.proofs.Common.{◌≡◌, Some, option_map, rules, sym, ◌∙◌, ap}
use Rattle.std.proofs.lemmas.Map.Iter.{rest_more}
use Rattle.standard.specs.Entities.{entities_in}
use Rattle.serde_json.specs.View.{members_view}
use Rattle.entity_table.specs.View.{entity_in, rows_in}
use Rattle.entity_table.proofs.Reading.{one_more_row, AreNames-rows}
use Rattle.entity_table.proofs.read.rows_of.Goals as goal

pub loop-name-preserved-in_ok-push-3 : goal.loop-name-preserved-in_ok-push-3
loop-name-preserved-in_ok-push-3 c =
    let next = rest_more (λ x. x) c.loop-name.name-iterator c.next.new.self _ (c.in-Some.name, c.in-Some.value) c.in-Some.is c.next.ensures.steps in
    let made : c.row.result ≡ Some c.in_ok-row.row = search rules in
    let step = one_more_row c.loop-name.rows.items c.in_ok-row.row c.in-Some.name c.in-Some.value c.loop-name.name-iterator c.next.new.self next (sym (ap (option_map entity_in) made) ∙ c.row.ensures) in
    rw c.in_ok-push.ensures.items (step ∙ c.loop-name.invariant)

pub returns-clause-names : goal.returns-clause-names
returns-clause-names c =
    let all : entities_in (members_view c.args.members.entries) ≡ Some (rows_in c.loop-name.rows.items) = search rules in
    AreNames-rows c.args.members.entries c.loop-name.rows.items all c.into_iter-name-iterator.ensures.into_iter_gives.5
