use Rattle.std.proofs.Common.{rules, arith, ◌≡◌, ℕ, ◌-◌, ◌<◌, sym, ap, ◌∙◌}
use Rattle.std.proofs.lemmas.Grind.{common_steps}
use Rattle.two_copies.specs.Sides.{plan_or, plan_of, first_plan, resting, flipped, unit}
use Rattle.two_copies.specs.declared.board.Plan.{Plan}
use Rattle.two_copies.proofs.SidesKept.{rests, plan_is}
use Rattle.two_copies.proofs.desk.Open.show_as.Goals as goal

pub invariant_of-result : goal.invariant_of-result
invariant_of-result g c = let d = c.args.self in let all = c.freeze-deed.result.1 in let kept = c.fill.new.part in let n : ℕ = c.len-readers.result in let side : ℕ = d.side in let low : side < 2 = d.sized.2 in
    let r : Plan g.row.T.Denot = resting side 0 d.shown (plan_of d.place d.shown) in let full : Plan g.row.T.Denot → Plan g.row.T.Denot = λ z. record z { filled = n; spare = unit all } in
    let e₀ : plan_of d.place all ≡ r = ap (λ s. plan_or (first_plan all) s.me.0.role) d.planned in
    let e₁ : plan_of c.fill.new.place kept ≡ full r = plan_is c.fill.new.place _ c.fill.ensures.seat.1 kept ∙ ap full e₀ in
    let e₂ : plan_of c.turn_as.new.place kept ≡ flipped n (1 - side) (full r) = plan_is c.turn_as.new.place _ c.turn_as.ensures.seat.2 kept ∙ ap (λ (z : Plan g.row.T.Denot). flipped z.filled z.off z) e₁ in
    let now = plan_is c.note_epochs.new.place _ c.note_epochs.ensures.1 kept in let back : side ≡ 1 - (1 - side) = omega arith in record {
      seated = search rules;
      sized = (first_of (search rules, grind (arith, common_steps)));
      whole = (first_of (search rules, grind (arith, common_steps)));
      spare_whole = (first_of (search rules, grind (arith, common_steps)));
      planned = rests c.note_epochs.new.place _ c.note_epochs.ensures.1 _ _ _ (ap (λ p. p.side) e₂) (ap (λ p. p.off) e₂ ∙ back) (ap (λ p. p.left) e₂) (ap (λ p. p.filled) e₂) (ap (λ p. p.hand) e₂)
          (ap (λ p. p.fresh) e₂) (ap (λ p. p.shown) e₂ ∙ sym (ap unit c.fill.ensures.part));
      lent = λ _. (ap (λ p. p.last) now, ap (λ p. p.spare) now ∙ ap (λ p. p.spare) e₂);
    }
