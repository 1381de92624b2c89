use Rattle.std.proofs.Common.{refl}
use Rattle.page_turns.specs.InPlaces.{asked_in, taken_in, replies_in}
use Rattle.page_turns.proofs.InPlaceLemmas.{first_of, hand_empty, picks_one, gives, takes_one, given_more, tells_on, tells_since}
use Rattle.page_turns.proofs.in_place.InPlaceCounterpart.answer.Goals as goal

pub invariant_of-self-then-not-can_pick : goal.invariant_of-self-then-not-can_pick
invariant_of-self-then-not-can_pick g c =
    λ e. takes_one _ _ _ _ _ (gives _ _ _ _ _ (c.self.invariant e) c.self.inside.work.hand c.in_ok-reply.reply.said c.give.new.self refl c.in_ok-reply.ensures.reply c.in_ok-reply.ensures.behind) _
    (given_more c.self.inside.taken.items c.self.inside.replies.items c.push_back.new.self.items c.in_ok-reply.reply c.in_ok-push_back.ensures.items)

pub invariant_of-self-in-Some : goal.invariant_of-self-in-Some
invariant_of-self-in-Some g c =
    λ e. picks_one _ _ _ _ _ (c.self.invariant e) c.in-Some.request c.pop_front.new.self.items c.pick.new.self (first_of c.pop_front.result c.in-Some.request _ _ c.pop_front.ensures.items c.in-Some.is)
    (hand_empty c.self.inside.work.hand c.can_pick.result c.can_pick.ensures (cc)) c.pick.ensures

pub returns-then-not-can_pick-clause-tells : goal.returns-then-not-can_pick-clause-tells
returns-then-not-can_pick-clause-tells g c =
    let was = c.self.inside in
    tells_since _ _ _ _ _ _ c.self.view_is
    (tells_on g.E.InForce.entities was.tells_asked was.tells_taken was.spent (asked_in was.asked.items) (asked_in was.asked.items) (taken_in was.taken.items) (taken_in was.taken.items) (replies_in was.replies.items) was.work was.requests.items c.self.invariant)

pub returns-in-None-clause-tells : goal.returns-in-None-clause-tells
returns-in-None-clause-tells g c =
    let was = c.self.inside in
    tells_since _ _ _ _ _ _ c.self.view_is
    (tells_on g.E.InForce.entities was.tells_asked was.tells_taken was.spent (asked_in was.asked.items) (asked_in was.asked.items) (taken_in was.taken.items) (taken_in was.taken.items) (replies_in was.replies.items) was.work was.requests.items c.self.invariant)

pub returns-in-Some-clause-tells : goal.returns-in-Some-clause-tells
returns-in-Some-clause-tells g c =
    let was = c.self.inside in
    tells_since _ _ _ _ _ _ c.self.view_is
    (tells_on g.E.InForce.entities was.tells_asked was.tells_taken was.spent (asked_in was.asked.items) (asked_in was.asked.items) (taken_in was.taken.items) (taken_in was.taken.items) (replies_in was.replies.items) was.work was.requests.items c.self.invariant)
