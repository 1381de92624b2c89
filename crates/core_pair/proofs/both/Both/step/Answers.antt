use Rattle.std.proofs.Common.{sym, subst}
use Rattle.core_pair.specs.Pairs.{Paired, with_event, IsApplicable, Applied}
use Rattle.core_pair.specs.Nearer.{LeavesLess}
use Rattle.core_pair.proofs.Applying.{event-noted}
use Rattle.core_pair.proofs.Running.{applicable, applied-run, Ran}
use Rattle.core_pair.proofs.Nearing.{applied-nearer}
use Rattle.core_pair.proofs.both.Both.step.Goals as goal

pub apply-requires : goal.apply-requires
apply-requires g c =
    let i = c.self.inside in
    subst (λ (p : Paired). IsApplicable g.E.InForce.entities c.args.event p)
    (sym (event-noted i.doc _ i.work _ i.scripts i.ending i.events.items c.push.new.self.items c.of-taken.result c.args.event c.args.self.now c.in_ok-push.ensures.items c.of-taken.ensures c.self.view_is))
    (applicable g.E.InForce.entities c.args.event c.args.self.now c.requires.run c.requires.can)

applied : (g : _) (c : goal.In_ok-apply g) → Applied c.args.event (with_event c.args.event c.args.self.now) c.apply.new.self
applied g c =
    let i = c.self.inside in
    subst (λ (p : Paired). Applied c.args.event p c.apply.new.self)
    (event-noted i.doc _ i.work _ i.scripts i.ending i.events.items c.push.new.self.items c.of-taken.result c.args.event c.args.self.now c.in_ok-push.ensures.items c.of-taken.ensures c.self.view_is) c.in_ok-apply.ensures.applied

less : (g : _) (c : goal.In_ok-apply g) → LeavesLess c.args.event c.args.self.now.core c.apply.new.self.core
less g c =
    let i = c.self.inside in
    subst (λ (p : Paired). LeavesLess c.args.event p.core c.apply.new.self.core)
    (event-noted i.doc _ i.work _ i.scripts i.ending i.events.items c.push.new.self.items c.of-taken.result c.args.event c.args.self.now c.in_ok-push.ensures.items c.of-taken.ensures c.self.view_is) c.in_ok-apply.ensures.less

ran : (g : _) (c : goal.In_ok-apply g) → Ran g.E.InForce.entities c.args.event c.args.self.now c.apply.new.self
ran g c =
    applied-run g.E.InForce.entities c.args.event c.args.self.now c.apply.new.self c.requires.run c.requires.can (applied g c)

pub returns-clause-run : goal.returns-clause-run
returns-clause-run g c = (ran g c).0

pub returns-clause-steps : goal.returns-clause-steps
returns-clause-steps g c = (ran g c).1

pub returns-clause-others : goal.returns-clause-others
returns-clause-others g c = (ran g c).2

pub returns-clause-nearer : goal.returns-clause-nearer
returns-clause-nearer g c = applied-nearer c.args.event c.args.self.now c.apply.new.self c.requires.can (applied g c) (less g c)
