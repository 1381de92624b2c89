use Rattle.std.proofs.Common.{◌∙◌, ap}
use Rattle.core_definitions.specs.declared.event.Event.TheVariants as event
use Rattle.core_definitions.specs.Core.{enabled}
use Rattle.core_pair.specs.Pairs.{Paired, setup_of}
use Rattle.core_pair.proofs.Holding.{kept-run, both-shown, failed-pick, failed-give, failed-takes}
use Rattle.core_pair.proofs.pair.Pair.could.Goals as goal

pub could-requires : goal.could-requires
could-requires g c =
    let i = c.self.inside in
    record { run = kept-run g.E.InForce.entities i.both i.before.value i.spent c.if-self.false c.self.invariant }

pub returns-then-self-clause-pick : goal.returns-then-self-clause-pick
returns-then-self-clause-pick g c = failed-pick c.self.invariant c.if-self.true c.self.view_is

pub returns-clause-pick : goal.returns-clause-pick
returns-clause-pick g c = c.could.ensures.pick ∙ ap (λ (p : Paired). enabled (setup_of p) event.Pick p.core) (both-shown c.self.invariant c.if-self.false c.self.view_is)

pub returns-then-self-clause-give : goal.returns-then-self-clause-give
returns-then-self-clause-give g c = failed-give c.self.invariant c.if-self.true c.self.view_is

pub returns-clause-give : goal.returns-clause-give
returns-clause-give g c = c.could.ensures.give ∙ ap (λ (p : Paired). enabled (setup_of p) event.Give p.core) (both-shown c.self.invariant c.if-self.false c.self.view_is)

pub returns-then-self-clause-takes : goal.returns-then-self-clause-takes
returns-then-self-clause-takes g c = failed-takes c.self.invariant c.if-self.true c.self.view_is

pub returns-clause-takes : goal.returns-clause-takes
returns-clause-takes g c = c.could.ensures.takes ∙ ap (λ (p : Paired). enabled (setup_of p) event.Take p.core) (both-shown c.self.invariant c.if-self.false c.self.view_is)
