use Rattle.std.proofs.Common.{arith}
use Rattle.std.specs.Str.{chars}
use Rattle.preload.specs.Teams.{IsUnasked}
use Rattle.preload.proofs.Teams.{below, at_read, passed}
use Rattle.preload.proofs.team.place_in.Goals as goal

pub returns-in-Some-clause-some : goal.returns-in-Some-clause-some
returns-in-Some-clause-some g c = (c.index-members-who.result, at_read c.args.members.now c.loop-who.who c.index-members-who.result (omega (arith, c.loop-who-test.true)) c.index-members-who.is, c.in-Some.ensures.some)

pub loop-who-preserved : goal.loop-who-preserved
loop-who-preserved g c =
    passed (IsUnasked (chars c.args.name.now)) c.args.members.now c.loop-who.who c.index-members-who.result (at_read c.args.members.now c.loop-who.who c.index-members-who.result (omega (arith, c.loop-who-test.true)) c.index-members-who.is) c.in_default.ensures.none c.loop-who.invariant

pub returns-clause-none : goal.returns-clause-none
returns-clause-none g c k m there = c.loop-who.invariant k m (let less = below c.args.members.now k m there in omega (arith, less, c.loop-who-test.false)) there
