use Rattle.std.proofs.Common.{[], ◌∷◌, ◌++◌, ap, ◌∙◌, refl, inr, arith}
use Rattle.preload.specs.declared.messages.Wanted.TheVariants.{Ask}
use Rattle.preload.proofs.Teams.{asks_one, given_one}
use Rattle.preload.proofs.team.Fetcher.ask.Goals as goal

pub push_reserved-requires : goal.push_reserved-requires
push_reserved-requires g c = omega (arith, c.requires.room, c.requires.asked.room.0)

pub returns-clause-asked : goal.returns-clause-asked
returns-clause-asked g c =
    asks_one g.F.Outside c.args.self.now _ c.requires.asked c.args.name.now c.requires.room c.requires.once c.copy.ensures.lawful (c.push_reserved.ensures.items ∙ ap (λ n. c.args.self.now.names.items ++ n ∷ []) c.in-Ok.ensures.same)
    c.push_reserved.ensures.len c.push_reserved.ensures.capacity refl (c.ask.ensures.asked ∙ ap (λ n. c.args.self.now.helper.ask.put ++ Ask n ∷ []) c.in-Ok-copy.ensures.same) c.ask.ensures.lane c.ask.ensures.others

pub returns-clause-names : goal.returns-clause-names
returns-clause-names g c = inr (c.push_reserved.ensures.items ∙ ap (λ n. c.args.self.now.names.items ++ n ∷ []) c.in-Ok.ensures.same)

pub returns-clause-given : goal.returns-clause-given
returns-clause-given g c = given_one g.F.Outside c.args.self.now (record { helper = c.ask.new.self; names = c.push_reserved.new.self; told = c.args.self.now.told }) c.requires.asked c.args.name.now (c.push_reserved.ensures.items ∙ ap (λ n. c.args.self.now.names.items ++ n ∷ []) c.in-Ok.ensures.same) refl c.ask.ensures.others

pub returns-clause-to_come : goal.returns-clause-to_come
returns-clause-to_come g c = omega (arith, c.push_reserved.ensures.len)
