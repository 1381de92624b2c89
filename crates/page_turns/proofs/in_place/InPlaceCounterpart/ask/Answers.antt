use Rattle.std.proofs.Common.{sym, subst, [], ◌∷◌, ◌++◌}
use Rattle.page_turns.specs.InPlaces.{asked_in, taken_in, replies_in, IsAnswering}
use Rattle.page_turns.proofs.InPlaceLemmas.{pushed, asked_more, asks_one, tells_on, tells_since}
use Rattle.page_turns.proofs.in_place.InPlaceCounterpart.ask.Goals as goal

pub returns-clause-tells : goal.returns-clause-tells
returns-clause-tells g c =
    let was = c.self.inside in
    let asked = asked_more _ _ c.of-asked.result c.args.request (pushed _ c.is_err.result _ _ _ c.push.ensures.items c.is_err.ensures.negation (cc)) c.of-asked.ensures in
    tells_since _ _ _ _ _ _ c.self.view_is
    (tells_on g.E.InForce.entities was.tells_asked was.tells_taken was.spent (asked_in was.asked.items) (asked_in c.push.new.self.items) (taken_in was.taken.items) (taken_in was.taken.items) (replies_in was.replies.items) was.work (was.requests.items ++ c.args.request ∷ [])
    (λ e. subst (λ all. IsAnswering g.E.InForce.entities all (taken_in was.taken.items ++ replies_in was.replies.items) was.work (was.requests.items ++ c.args.request ∷ [])) (sym asked) (asks_one _ _ _ _ _ (c.self.invariant e) c.args.request)))
