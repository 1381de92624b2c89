use Rattle.std.proofs.Common.{rules}
use Rattle.two_copies.specs.Sides.{plan_of}
use Rattle.two_copies.proofs.SidesKept.{begins}
use Rattle.two_copies.proofs.rounds.begin.Goals as goal

pub store-requires : goal.store-requires
store-requires g c = (search rules, search rules, begins g.P.Protocol.holds _ _ _ (plan_of c.args.place.now c.args.like.now) (search rules) (search rules) (search rules, search rules, search rules, search rules, search rules))
