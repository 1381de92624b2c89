use Rattle.std.proofs.Common.{rules, ap, ◌∙◌}
use Rattle.two_copies.specs.declared.board.Role.TheVariants.{Writer}
use Rattle.two_copies.specs.Sides.{plan_of}
use Rattle.two_copies.proofs.SidesKept.{ends}
use Rattle.two_copies.proofs.rounds.shut.Goals as goal

pub store-requires : goal.store-requires
store-requires g c = (search rules, search rules, ends g.P.Protocol.holds _ _ _ (plan_of c.args.place.now c.args.like.now) (search rules) (search rules) (search rules, search rules))

pub returns : goal.returns
returns g c = let did = c.store.ensures in let t = did.2.2 (plan_of c.args.place.now c.args.like.now) (search rules) in
    ((did.0, did.1, did.2.0), (t.1 ∙ ap (λ z. Writer z) (t.2 c.args.readers (search rules)), did.2.1))
