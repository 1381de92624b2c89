use Rattle.std.proofs.Common.{◌++◌, ◌∙◌, inl, inr, List, ℕ, length, drop, refl, ap}
use Rattle.specparse_c.proofs.rooms.give_printed.Goals as goal

pub returns-then-lacks : goal.returns-then-lacks
returns-then-lacks c = (ap length c.as_slice-bytes.ensures.value, inr (refl, c.if-lacks.true, refl))

pub fill-requires : goal.fill-requires
fill-requires c = c.if-lacks.false

pub returns : goal.returns
returns c =
    let same = c.as_slice-bytes.ensures.value in
    (ap length same, inl (c.told.ensures, c.fill.ensures ∙ ap (λ (xs : List ℕ). xs ++ drop (length c.as_slice-bytes.result.now) c.args.text.now) same))
