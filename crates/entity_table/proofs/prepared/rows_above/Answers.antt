use Rattle.std.proofs.Common.{◌≡◌, ◌-◌, ◌∙◌, suc, ℕ, List, Some, None, option_map, rules, sym, ap, arith}
use Rattle.standard.specs.Entities.{Entity}
use Rattle.entity_table.specs.View.{entity_in, entity_read}
use Rattle.entity_table.specs.declared.prepared.Entry.{Entry}
use Rattle.entity_table.proofs.Preparing.{one_more_read, none_read, all_read, more_behind, AreNames-read}
use Rattle.entity_table.proofs.prepared.rows_above.Goals as goal

abbrev Read : Entry → Entity × List ℕ
Read e = (entity_read e, e.behind.now)

pub returns-in_err-entry-clause-no_rows : goal.returns-in_err-entry-clause-no_rows
returns-in_err-entry-clause-no_rows c = λ _.
    let l = c.loop-left in
    let none : c.entry_above.result ≡ None = search rules in
    let up : l.left ≡ suc (l.left - 1) = omega arith in
    none_read l.rows.items l.before.now l.rest.now l.left (l.left - 1) _ up (sym (ap (option_map Read) none) ∙ c.entry_above.ensures) l.invariant

pub loop-left-preserved : goal.loop-left-preserved
loop-left-preserved c =
    let l = c.loop-left in
    let made : c.entry_above.result ≡ Some c.in_ok-entry.entry = search rules in
    let up : l.left ≡ suc (l.left - 1) = omega arith in
    let is : entity_in c.in_ok-row.row ≡ entity_read c.in_ok-entry.entry = c.in_ok-row.ensures in
    let name = ap (λ (e : Entity). e.name) is ∙ sym c.as_bytes-before.ensures.value in
    let read = ap (λ (e : Entity). Some (e, c.in_ok-entry.entry.behind.now)) is ∙ sym (ap (option_map Read) made) ∙ c.entry_above.ensures in
    rw c.in_ok-push.ensures.items
    (one_more_read l.rows.items c.in_ok-row.row l.before.now l.rest.now c.as_bytes-before.result.now c.in_ok-entry.entry.behind.now l.left (l.left - 1) _ up name read l.invariant)

pub returns-then-is_empty-clause-rows : goal.returns-then-is_empty-clause-rows
returns-then-is_empty-clause-rows c =
    let l = c.loop-left in
    all_read l.rows.items l.before.now l.rest.now l.left _ (omega arith) (search rules) l.invariant

pub returns-then-is_empty-clause-names : goal.returns-then-is_empty-clause-names
returns-then-is_empty-clause-names c =
    let l = c.loop-left in
    AreNames-read c.args.count c.args.bytes.now l.rows.items (all_read l.rows.items l.before.now l.rest.now l.left _ (omega arith) (search rules) l.invariant)

pub returns-else-is_empty-clause-no_rows : goal.returns-else-is_empty-clause-no_rows
returns-else-is_empty-clause-no_rows c = λ _.
    let l = c.loop-left in
    more_behind l.rows.items l.before.now l.rest.now l.left _ (omega arith) (search rules) l.invariant
