use Rattle.std.proofs.Common.{rules, ap}
use Rattle.two_copies.proofs.SidesKept.{frees}
use Rattle.two_copies.proofs.reader.Reader.drop.Goals as goal

pub store-requires : goal.store-requires
store-requires g c = (search rules, search rules, frees g.P.Protocol.holds _ _ _ _ (ap (λ s. s.me.0.role) c.args.self.out))
