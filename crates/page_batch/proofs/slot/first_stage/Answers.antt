use Rattle.std.proofs.Common.{sym, ap, subst}
use Rattle.page_batch.specs.Reading.{given_in}
use Rattle.page_batch.specs.Going.{used_of}
use Rattle.page_batch.specs.Slots.{IsPart}
use Rattle.page_batch.proofs.slot.first_stage.Goals as goal

pub returns-in-Missing-clause-stage : goal.returns-in-Missing-clause-stage
returns-in-Missing-clause-stage g c = subst (λ f. IsPart g.E.InForce.entities (given_in f) c.bare_part.result) (sym c.in-Missing.is) c.bare_part.ensures

pub returns-in-Missing-clause-unused : goal.returns-in-Missing-clause-unused
returns-in-Missing-clause-unused g c = ap used_of c.bare_part.ensures.2

pub returns-in-Faulted-clause-stage : goal.returns-in-Faulted-clause-stage
returns-in-Faulted-clause-stage g c = subst (λ f. IsPart g.E.InForce.entities (given_in f) c.bare_part-in-Faulted.result) (sym c.in-Faulted.is) c.bare_part-in-Faulted.ensures

pub returns-in-Faulted-clause-unused : goal.returns-in-Faulted-clause-unused
returns-in-Faulted-clause-unused g c = ap used_of c.bare_part-in-Faulted.ensures.2

pub returns-in-Read-clause-stage : goal.returns-in-Read-clause-stage
returns-in-Read-clause-stage g c = ap given_in c.in-Read.is
