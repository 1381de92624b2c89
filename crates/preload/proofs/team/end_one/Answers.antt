use Rattle.std.proofs.Common.{Some, sym, subst}
use Rattle.preload.specs.Teams.{IsMember, CameBack, GaveOwn}
use Rattle.preload.proofs.Teams.{ended_back, ended_own}
use Rattle.preload.proofs.team.end_one.Goals as goal

pub returns-in-Works-clause-back : goal.returns-in-Works-clause-back
returns-in-Works-clause-back g c =
    let asked = subst (IsMember g.F.Outside) c.in-Works.is c.requires in
    let after = g.F.Outside.seen c.finish-helper.result.0 in
    let e = c.finish-helper.ensures in
    subst (λ m. CameBack g.F.Outside m (Some c.finish-helper.result.1) after) (sym c.in-Works.is)
    (ended_back g.F.Outside c.in-Works.fetcher asked c.finish-helper.result.1 after e.asked e.taken e.asked_in_order e.answers_in_order e.fetched)

pub returns-in-Works-clause-own : goal.returns-in-Works-clause-own
returns-in-Works-clause-own g c =
    let asked = subst (IsMember g.F.Outside) c.in-Works.is c.requires in
    let after = g.F.Outside.seen c.finish-helper.result.0 in
    let e = c.finish-helper.ensures in
    subst (λ m. GaveOwn g.F.Outside m after) (sym c.in-Works.is)
    (ended_own g.F.Outside c.in-Works.fetcher asked c.finish-helper.result.1 after e.asked e.taken e.asked_in_order e.answers_in_order e.fetched)
