use Rattle.std.proofs.Common.{◌≤◌, length, sym, ap, subst, ◌∙◌}
use Rattle.page_turns.specs.Watched.{AreLast}
use Rattle.page_turns.proofs.WatchLemmas.{none_seen, few_none}
use Rattle.page_runner.specs.Publishing.{Shows, IsSeated, shows_of}
use Rattle.page_runner.proofs.publisher.end_seat.Goals as goal

pub call_back-requires-clause-lane : goal.call_back-requires-clause-lane
call_back-requires-clause-lane g c = (subst (IsSeated c.args.count) c.in-There.is c.requires).0

pub call_back-requires-clause-did : goal.call_back-requires-clause-did
call_back-requires-clause-did g c = (subst (IsSeated c.args.count) c.in-There.is c.requires).2

pub returns-in-There-clause-seen : goal.returns-in-There-clause-seen
returns-in-There-clause-seen g c = subst (λ (s : Shows). AreLast s.doc c.call_back.result.0.items) (sym (ap shows_of c.in-There.is)) c.call_back.ensures.seen

pub returns-in-There-clause-count : goal.returns-in-There-clause-count
returns-in-There-clause-count g c = λ all. c.call_back.ensures.count all ∙ (subst (IsSeated c.args.count) c.in-There.is c.requires).1

pub returns-in-Here-clause-seen : goal.returns-in-Here-clause-seen
returns-in-Here-clause-seen g c = subst (λ (s : Shows). AreLast s.doc c.finish.result.0.items) (sym (ap shows_of c.in-Here.is)) c.finish.ensures.seen

pub returns-in-Here-clause-count : goal.returns-in-Here-clause-count
returns-in-Here-clause-count g c = λ all. c.finish.ensures.count all ∙ subst (IsSeated c.args.count) c.in-Here.is c.requires

pub returns-in-Ended-clause-seen : goal.returns-in-Ended-clause-seen
returns-in-Ended-clause-seen g c = none_seen _ _ c.none_seen.ensures

pub returns-in-There-clause-few : goal.returns-in-There-clause-few
returns-in-There-clause-few g c = subst (λ n. length c.call_back.result.0.items ≤ n) (subst (IsSeated c.args.count) c.in-There.is c.requires).1 c.call_back.ensures.few

pub returns-in-Here-clause-few : goal.returns-in-Here-clause-few
returns-in-Here-clause-few g c = subst (λ n. length c.finish.result.0.items ≤ n) (subst (IsSeated c.args.count) c.in-Here.is c.requires) c.finish.ensures.few

pub returns-in-Ended-clause-few : goal.returns-in-Ended-clause-few
returns-in-Ended-clause-few g c = few_none _ _ c.none_seen.ensures
