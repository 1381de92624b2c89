use Rattle.std.proofs.Common.{rules, ap, ◌∙◌}
use Rattle.two_copies.proofs.SidesKept.{joins, is_posed}
use Rattle.two_copies.proofs.reader.Reader.learn.Goals as goal

pub join_seat-requires : goal.join_seat-requires
join_seat-requires g c = (search rules, search rules, search rules, search rules, joins g.P.Protocol.holds _ _ _ _ _ _ c.requires.rule)

pub invariant_of-self : goal.invariant_of-self
invariant_of-self g c = let now = c.join_seat.ensures.2 in let was = c.args.self.now.out in record {
  seated = search rules;
  inside = search rules;
  out = is_posed _ _ _ (ap (λ m. m.0.role) now ∙ ap (λ s. s.me.0.role) was) (ap (λ m. m.1) now ∙ ap (λ s. s.me.1) was);
}
