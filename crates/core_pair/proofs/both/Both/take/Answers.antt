use Rattle.std.proofs.Common.{ap, map}
use Rattle.core_pair.proofs.Applying.{taken}
use Rattle.core_pair.proofs.both.Both.take.Goals as goal

pub returns-clause-applied : goal.returns-clause-applied
returns-clause-applied g c =
    let i = c.self.inside in
    taken i.doc _ i.work _ i.scripts i.ending _ c.args.self.now c.self.view_is c.take.new.self c.in-Some.reply.said.reply _ (ap (map _) c.in-Some.ensures.items) c.in_ok-take.ensures.took
