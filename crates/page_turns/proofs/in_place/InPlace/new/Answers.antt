use Rattle.std.proofs.Common.{ap}
use Rattle.page_turns.specs.InPlaces.{asked_in}
use Rattle.page_turns.proofs.InPlaceLemmas.{answers_none, given_none}
use Rattle.page_turns.proofs.in_place.InPlace.new.Goals as goal

pub invariant_of-result : goal.invariant_of-result
invariant_of-result g c =
    λ e. answers_none _ _ _ _ _ (ap asked_in c.new-4.ensures.items) (given_none c.new-5.result.items c.new-3.result.items c.new-5.ensures.items c.new-3.ensures.items) c.new.ensures c.new-2.ensures.items
