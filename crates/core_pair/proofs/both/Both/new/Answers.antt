use Rattle.std.proofs.Common.{map, sym, ◌∙◌, ap}
use Rattle.core_steps.specs.Sides.{first_shown, with_ending}
use Rattle.core_pair.specs.Pairs.{with_pieces, events_of}
use Rattle.core_pair.proofs.Beginning.{same-entities, first-told}
use Rattle.core_pair.proofs.both.Both.new.Goals as goal

pub invariant_of-result : goal.invariant_of-result
invariant_of-result g c =
    let s = c.args.setup in
    sym (same-entities c.in_ok-table.table s.ahead s.pieces.items s.ending c.in_ok-doc.doc
    (c.in_ok-doc.ensures ∙ ap (λ ts. with_ending s.ending (with_pieces ts (first_shown c.in_ok-table.table s.ahead))) c.as_slice.ensures.value))

pub returns : goal.returns
returns g c =
    let s = c.args.setup in
    first-told s.table.now s.ahead s.pieces.items s.ending c.in_ok-doc.doc
    (c.in_ok-doc.ensures
    ∙ (ap (λ ts. with_ending s.ending (with_pieces ts (first_shown c.in_ok-table.table s.ahead))) c.as_slice.ensures.value
    ∙ ap (λ es. with_ending s.ending (with_pieces s.pieces.items (first_shown es s.ahead))) c.in_ok-table.ensures))
    s.scripts _ c.new-2.result _ _
    (ap (map (λ r. r.request)) c.new.ensures.items) c.new-2.ensures (ap (map (λ r. r.said.reply)) c.new-3.ensures.items) (ap events_of c.new-4.ensures.items)
