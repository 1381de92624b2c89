use Rattle.std.proofs.Common.{rules, ◌≡◌, refl, ap, ◌∙◌}
use Rattle.two_copies.specs.Sides.{IsPlanned, plan_or, plan_of, first_plan, resting}
use Rattle.two_copies.proofs.SidesKept.{splits, rests}
use Rattle.two_copies.proofs.desk.Desk.tell.Goals as goal

pub split_seat-requires : goal.split_seat-requires
split_seat-requires g c = (search rules, search rules, splits g.P.Protocol.holds _ _ _ _ c.requires)

pub invariant_of-self : goal.invariant_of-self
invariant_of-self g c = let d = c.args.self.now in let seat = c.split_seat.new.seat in let now = c.split_seat.ensures.2 in let role = ap (λ m. m.0.role) now in
    let planned : IsPlanned seat (resting d.side d.left d.shown (plan_of d.place d.shown)) = (role ∙ ap (λ s. s.me.0.role) d.planned, ap (λ m. m.1) now ∙ ap (λ s. s.me.1) d.planned) in
    let same : plan_of seat d.shown ≡ plan_of d.place d.shown = ap (plan_or (first_plan d.shown)) role in record {
      seated = search rules;
      sized = search rules;
      whole = d.whole;
      spare_whole = d.spare_whole;
      planned = rests seat _ planned _ _ _ refl refl refl refl refl refl refl;
      lent = λ l. (ap (λ p. p.last) same ∙ (d.lent l).0, ap (λ p. p.spare) same ∙ (d.lent l).1);
    }
