use Rattle.std.proofs.Common.{◌≡◌, zero, suc, ◌<◌, ◌-◌, ◌==◌, ℕ, length, Bool, true, false, true≢false, sym, ap, ◌∙◌, subst, arith}
use Rattle.std.specs.List.Sorted.{IsPartitionPoint}
use Rattle.entity_table.specs.Parts.{is_below, is_up_to, rests}
use Rattle.entity_table.proofs.Narrowing.{point-none, point-all, rest_of_row, length-of_rests}
use Rattle.entity_table.proofs.cursor.all_go_on.Goals as goal

some : (n : ℕ) (b : Bool) → b ≡ (n == 0) → b ≡ false → 0 < n
some zero b e f = absurd (true≢false (sym e ∙ f))
some (suc n) b e f = omega arith

pub returns-then-not-goes_below-clause-below : goal.returns-then-not-goes_below-clause-below
returns-then-not-goes_below-clause-below c = λ _ ordered.
    let rows = c.args.rows.now in
    let depth = c.args.depth in
    let is = c.args.c in
    let there = some (length rows) c.is_empty.result c.is_empty.ensures c.if-is_empty.false in
    point-none (is_below is) (rests depth rows)
    (λ d. ap (is_below is) (rest_of_row rows depth 0 c.index-rows-0.result d there c.index-rows-0.is) ∙ sym c.goes_below.ensures ∙ c.if-not-goes_below.true) ordered

pub returns-then-not-goes_below-clause-up_to : goal.returns-then-not-goes_below-clause-up_to
returns-then-not-goes_below-clause-up_to c = λ passes ordered.
    let rows = c.args.rows.now in
    let depth = c.args.depth in
    let is = c.args.c in
    let last = c.index-rows-rows.result in
    let there = some (length rows) c.is_empty.result c.is_empty.ensures c.if-is_empty.false in
    let long = length-of_rests rows depth in
    subst (λ (n : ℕ). IsPartitionPoint (λ y. is_up_to is y ≡ true) (λ y. is_up_to is y ≡ false) (rests depth rows) n) long
    (point-all (is_up_to is) (rests depth rows) (length rows - 1) (omega (arith, long, there))
    (λ d. ap (is_up_to is) (rest_of_row rows depth (length rows - 1) last d (omega (arith, there)) c.index-rows-rows.is) ∙ sym c.goes_up_to.ensures ∙ passes) ordered)
