use Rattle.std.proofs.Common.{rules, ◌≡◌, refl, ap}
use Rattle.two_copies.specs.Sides.{plan_or, plan_of, first_plan, resting}
use Rattle.two_copies.proofs.SidesKept.{rests}
use Rattle.two_copies.proofs.desk.Desk.open.Goals as goal

pub invariant_of-open : goal.invariant_of-open
invariant_of-open g c = let d = c.args.self in
    let was : plan_of d.place d.spare ≡ resting d.side d.left d.shown (plan_of d.place d.shown) = ap (λ s. plan_or (first_plan d.spare) s.me.0.role) d.planned in record {
      seated = search rules;
      sized = search rules;
      whole = d.whole;
      planned = rests c.gather.new.place _ c.gather.ensures.1 _ _ _ (ap (λ p. p.side) was) (ap (λ p. p.off) was) refl (ap (λ p. p.filled) was) (ap (λ p. p.hand) was) (ap (λ p. p.fresh) was)
          (ap (λ p. p.shown) was);
    }
