use Rattle.std.proofs.Common.{rules, ap, ◌∙◌}
use Rattle.two_copies.proofs.SidesKept.{is_posed, leaves}
use Rattle.two_copies.proofs.reader.Reading.leave.Goals as goal

pub fetch_add-requires : goal.fetch_add-requires
fetch_add-requires g c = let now = c.exchange.ensures.3 in (
  search rules,
  search rules,
  leaves g.P.Protocol.holds _ _ _ _ _ c.args.self.part (ap (λ m. m.0.role) now ∙ (ap (λ s. s.me.0.role) c.args.self.holds)) (search rules),
)

pub invariant_of-result : goal.invariant_of-result
invariant_of-result g c = let did = c.fetch_add.ensures.2 in record {
  seated = search rules;
  inside = search rules;
  out = is_posed _ _ _ (did.2 _ _ _ (ap (λ m. m.0.role) c.exchange.ensures.3 ∙ ap (λ s. s.me.0.role) c.args.self.holds)) did.1;
}
