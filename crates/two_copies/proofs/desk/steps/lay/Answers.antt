use Rattle.std.proofs.Common.{rules, arith, ◌≡◌, refl}
use Rattle.std.proofs.lemmas.Grind.{common_steps}
use Rattle.two_copies.proofs.SidesKept.{starts}
use Rattle.two_copies.proofs.desk.steps.lay.Goals as goal

pub vacant-requires : goal.vacant-requires
vacant-requires g c = let same : c.of-about.result.value ≡ c.args.part.now = search rules in
    starts g.P.Protocol.holds c.args.readers _ _ _ _ (first_of (search rules, grind (arith, common_steps))) refl (first_of (search rules, grind (arith, common_steps))) (λ i low high. (first_of (search rules, grind (arith, common_steps)))) (first_of (search rules, grind (arith, common_steps)))
