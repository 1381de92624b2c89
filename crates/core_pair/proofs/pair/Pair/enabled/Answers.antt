use Rattle.std.proofs.Common.{◌∙◌, sym, ap}
use Rattle.core_definitions.specs.declared.event.Event.{Event}
use Rattle.core_definitions.specs.Core.{enabled}
use Rattle.core_pair.specs.Pairs.{setup_of}
use Rattle.core_pair.proofs.Holding.{do-told, arrive-told, arrived-told}
use Rattle.core_pair.proofs.pair.Pair.enabled.Goals as goal

pub can_arrive-requires : goal.can_arrive-requires
can_arrive-requires g c = record { arrived = arrived-told c.self.invariant c.self.view_is }

pub returns-in-Do : goal.returns-in-Do
returns-in-Do g c = c.can_do.ensures ∙ (do-told c.self.invariant c.self.view_is ∙ ap (λ (v : Event). enabled (setup_of c.args.self.now) v c.args.self.now.core) (sym c.in-Do.is))

pub returns-in-Arrive : goal.returns-in-Arrive
returns-in-Arrive g c =
    c.can_arrive.ensures ∙ (arrive-told c.in-Arrive.name c.self.invariant c.self.view_is ∙ ap (λ (v : Event). enabled (setup_of c.args.self.now) v c.args.self.now.core) (sym c.in-Arrive.is))
