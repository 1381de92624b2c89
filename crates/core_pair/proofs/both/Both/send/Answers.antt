use Rattle.core_pair.proofs.Applying.{sent, mapped-more}
use Rattle.core_pair.proofs.both.Both.send.Goals as goal

pub returns-clause-applied : goal.returns-clause-applied
returns-clause-applied g c =
    let i = c.self.inside in
    sent i.doc _ i.work _ i.scripts i.ending _ c.args.self.now c.self.view_is c.send.new.self _ c.in_ok-request.request.request c.in_ok-request.ensures.sent c.in_ok-request.ensures.request
    (mapped-more _ i.requests.items c.reserve.new.self.items c.push_back_reserved.new.self.items c.in_ok-request.request c.in_ok-reserve.ensures.items c.push_back_reserved.ensures.items)
