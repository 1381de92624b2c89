use Rattle.std.proofs.Common.{rules}
use Rattle.two_copies.specs.Sides.{plan_of}
use Rattle.two_copies.proofs.SidesKept.{turns}
use Rattle.two_copies.proofs.rounds.turn_as.Goals as goal

pub store-requires : goal.store-requires
store-requires g c = (
  search rules,
  search rules,
  turns g.P.Protocol.holds g.M.Outcome.then _ _ _ (plan_of c.args.place.now c.args.like.now) _ (search rules) (search rules) (search rules, search rules, search rules, search rules, search rules, search rules),
)
