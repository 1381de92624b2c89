use Rattle.std.proofs.Common.{◌≡◌, sym, ◌∙◌, true≢false}
use Rattle.std.proofs.lemmas.Bool.{ltb-true}
use Rattle.std.proofs.lemmas.Slice.Eq.{bytes_eq-Decides}
use Rattle.entity_table.proofs.Finding.{name_in_row}
use Rattle.entity_table.proofs.search.is_at.Goals as goal

pub returns-in-Some-clause-named : goal.returns-in-Some-clause-named
returns-in-Some-clause-named c = λ same.
    let row = c.in-Some.row.now in
    name_in_row c.args.rows.now c.args.place row (ltb-true _ _ (sym c.in-Some.ensures.lookup.0)) c.in-Some.ensures.lookup.1
    ∙ sym c.as_str.ensures.value ∙ (bytes_eq-Decides c.as_str.result.now c.args.name.now).0 (sym c.eq.ensures ∙ same)

pub returns-in-Some-clause-other : goal.returns-in-Some-clause-other
returns-in-Some-clause-other c = λ other within is.
    let row = c.in-Some.row.now in
    let same : c.as_str.result.now ≡ c.args.name.now =
    c.as_str.ensures.value ∙ sym (name_in_row c.args.rows.now c.args.place row (ltb-true _ _ (sym c.in-Some.ensures.lookup.0)) c.in-Some.ensures.lookup.1) ∙ is in
    true≢false (sym ((bytes_eq-Decides c.as_str.result.now c.args.name.now).1 same) ∙ sym c.eq.ensures ∙ other)
