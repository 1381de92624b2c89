use Rattle.core_pair.proofs.Applying.{did}
use Rattle.core_pair.proofs.both.Both.act.Goals as goal

pub returns-clause-applied : goal.returns-clause-applied
returns-clause-applied g c =
    let i = c.self.inside in
    did i.doc _ i.work _ i.scripts i.ending _ c.args.self.now c.self.view_is c.act.new.self c.in_ok-act.ensures.does c.in_ok-act.ensures.others
