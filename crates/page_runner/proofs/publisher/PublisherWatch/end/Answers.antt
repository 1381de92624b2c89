use Rattle.std.proofs.Common.{◌≤◌, length, sym, ap, subst, ◌∙◌}
use Rattle.page_turns.specs.Watched.{AreLast}
use Rattle.page_runner.specs.Publishing.{Shows, Handed, IsSeated, shows_of}
use Rattle.page_runner.proofs.publisher.PublisherWatch.end.Goals as goal

pub end_seat-requires : goal.end_seat-requires
end_seat-requires g c = subst (IsSeated c.self.inside.count) (sym c.replace-seat.ensures.value) c.self.invariant

pub returns-clause-seen : goal.returns-clause-seen
returns-clause-seen g c =
    let before = ap shows_of c.replace-seat.ensures.value ∙ ap (λ (h : Handed). h.shows) c.self.view_is in
    subst (λ (s : Shows). AreLast s.doc c.end_seat.result.0.items) before c.end_seat.ensures.seen

pub returns-clause-count : goal.returns-clause-count
returns-clause-count g c = λ all. c.end_seat.ensures.count all ∙ ap (λ (h : Handed). h.count) c.self.view_is

pub returns-clause-few : goal.returns-clause-few
returns-clause-few g c = subst (λ n. length c.end_seat.result.0.items ≤ n) (ap (λ (h : Handed). h.count) c.self.view_is) c.end_seat.ensures.few

-- nobody publishes any more

pub invariant_of-self : goal.invariant_of-self
invariant_of-self g c = subst (IsSeated c.self.inside.count) (sym c.replace-seat.ensures.after) tt
