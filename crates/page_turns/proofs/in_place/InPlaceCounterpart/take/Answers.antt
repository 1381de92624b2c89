use Rattle.std.proofs.Common.{Some, ap, subst}
use Rattle.page_turns.specs.InPlaces.{Place, told_of, asked_in, taken_in, replies_in}
use Rattle.page_turns.specs.Messages.{Adds}
use Rattle.page_turns.proofs.LineLemmas.{took_one}
use Rattle.page_turns.proofs.InPlaceLemmas.{pushed, told_more, taken_more, takes_one, given_same, tells_on, tells_since}
use Rattle.page_turns.proofs.in_place.InPlaceCounterpart.take.Goals as goal

pub returns-clause-load : goal.returns-clause-load
returns-clause-load g c = took_one _ _ _ _ _ _ _ (ap (λ (p : Place). p.load) c.self.view_is) c.pop_front.ensures.items c.in-Some.is

pub returns-clause-taken : goal.returns-clause-taken
returns-clause-taken g c =
    subst (λ o. Adds o (told_of c.self.inside.tells_taken (taken_in c.push.new.self.items)) (Some c.in-Some.reply.said)) (ap (λ (p : Place). p.taken) c.self.view_is)
    (told_more _ _ _ _ (taken_more _ _ c.of-taken.result c.in-Some.reply.said (pushed _ c.is_err.result _ _ _ c.push.ensures.items c.is_err.ensures.negation (cc)) c.of-taken.ensures))

pub returns-clause-tells : goal.returns-clause-tells
returns-clause-tells g c =
    let was = c.self.inside in
    let more = taken_more _ _ c.of-taken.result c.in-Some.reply.said (pushed _ c.is_err.result _ _ _ c.push.ensures.items c.is_err.ensures.negation (cc)) c.of-taken.ensures in
    tells_since _ _ _ _ _ _ c.self.view_is
    (tells_on g.E.InForce.entities was.tells_asked was.tells_taken was.spent (asked_in was.asked.items) (asked_in was.asked.items) (taken_in was.taken.items) _ (replies_in c.pop_front.new.self.items) was.work was.requests.items
    (λ e. takes_one _ _ _ _ _ (c.self.invariant e) _ (given_same _ _ _ _ _ _ c.in-Some.is c.pop_front.ensures.items more)))
