use Rattle.std.proofs.Common.{sym, ◌∙◌, ap, subst, false}
use Rattle.core_pair.specs.Pairs.{Paired, setup_of, StepsShown}
use Rattle.core_pair.specs.Nearer.{IsNearer}
use Rattle.core_pair.proofs.Holding.{run-told, run-shown, kept-run, failed-kept, told-before, both-shown, stepped-shown}
use Rattle.core_pair.proofs.Interleaved.{always-stands_for, end-stays}
use Rattle.core_pair.proofs.pair.Pair.step.Goals as goal

pub could-self-inside-requires : goal.could-self-inside-requires
could-self-inside-requires g c =
    let i = c.self.inside in
    record { run = kept-run g.E.InForce.entities i.both i.before.value i.spent c.if-self.false c.self.invariant }

pub invariant_of-self : goal.invariant_of-self
invariant_of-self g c =
    let i = c.self.inside in
    let e = c.in_err-step.ensures in
    failed-kept g.E.InForce.entities i.both c.step.new.self c.of.result.value c.could-self-inside.result c.of.ensures e.journal
    (told-before i.both c.step.new.self c.of.result.value c.could-self-inside.result c.of.ensures e.desk e.ahead c.could-self-inside.ensures.pick c.could-self-inside.ensures.give c.could-self-inside.ensures.takes)
    (kept-run g.E.InForce.entities i.both i.before.value i.spent c.if-self.false c.self.invariant)

pub returns-clause-steps : goal.returns-clause-steps
returns-clause-steps g c =
    subst (λ (p : Paired). StepsShown (setup_of p) c.args.event p.core c.step.new.self.core) (both-shown c.self.invariant c.if-self.false c.self.view_is) c.in_ok-step.ensures.steps

pub returns-clause-others : goal.returns-clause-others
returns-clause-others g c =
    stepped-shown c.args.event c.self.inside.both c.step.new.self c.of.result.value c.args.self.now (both-shown c.self.invariant c.if-self.false c.self.view_is)
    (sym (ap (λ (p : Paired). p.spent) c.self.view_is) ∙ c.if-self.false) c.in_ok-step.ensures.others

pub returns-clause-setup : goal.returns-clause-setup
returns-clause-setup g c =
    ap setup_of (stepped-shown c.args.event c.self.inside.both c.step.new.self c.of.result.value c.args.self.now (both-shown c.self.invariant c.if-self.false c.self.view_is)
    (sym (ap (λ (p : Paired). p.spent) c.self.view_is) ∙ c.if-self.false) c.in_ok-step.ensures.others)

pub returns-clause-stands_for : goal.returns-clause-stands_for
returns-clause-stands_for g c = always-stands_for (run-told g.E.InForce.entities c.step.new.self false c.in_ok-step.ensures.run)

pub returns-clause-nearer : goal.returns-clause-nearer
returns-clause-nearer g c =
    subst (λ (p : Paired). IsNearer c.args.event p.core c.step.new.self.core) (both-shown c.self.invariant c.if-self.false c.self.view_is) c.in_ok-step.ensures.nearer

pub returns-clause-stays : goal.returns-clause-stays
returns-clause-stays g c =
    end-stays c.args.event c.step.new.self.core (run-shown c.self.invariant c.self.view_is) c.requires
    (subst (λ (p : Paired). StepsShown (setup_of p) c.args.event p.core c.step.new.self.core) (both-shown c.self.invariant c.if-self.false c.self.view_is) c.in_ok-step.ensures.steps)
