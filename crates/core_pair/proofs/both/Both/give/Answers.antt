use Rattle.std.proofs.Common.{refl, ◌∙◌, ap}
use Rattle.core_pair.specs.Pairs.{Paired}
use Rattle.core_pair.proofs.Applying.{given, mapped-more}
use Rattle.core_pair.proofs.both.Both.give.Goals as goal

pub returns-clause-applied : goal.returns-clause-applied
returns-clause-applied g c =
    let i = c.self.inside in
    given i.doc _ i.work _ i.scripts i.ending _ c.args.self.now c.self.view_is g.E.InForce.entities c.give.new.self _ c.in_ok-reply.reply.said (ap (λ (p : Paired). p.entities) c.self.view_is ∙ c.requires.entities)
    c.in_ok-reply.ensures.reply c.in_ok-reply.ensures.behind (mapped-more _ i.replies.items i.replies.items c.push_back.new.self.items c.in_ok-reply.reply refl c.in_ok-push_back.ensures.items)
