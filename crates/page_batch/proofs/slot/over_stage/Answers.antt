use Rattle.std.proofs.Common.{sym, subst}
use Rattle.page_batch.specs.Going.{Settled}
use Rattle.page_batch.proofs.slot.over_stage.Goals as goal

pub returns-clause-stays : goal.returns-clause-stays
returns-clause-stays g c = λ read h.
    subst (λ m. Settled g.E.InForce.entities read m c.in_ok-part.part.number c.in_ok-part.part.text.items) (sym c.in_ok-part.ensures.used) (c.in_ok-part.ensures.settled read h)

pub returns-clause-used : goal.returns-clause-used
returns-clause-used g c = c.in_ok-part.ensures.used
