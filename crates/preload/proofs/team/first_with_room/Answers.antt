use Rattle.std.proofs.Common.{arith}
use Rattle.preload.proofs.Teams.{at_read}
use Rattle.preload.proofs.team.first_with_room.Goals as goal

pub returns-then-has_room : goal.returns-then-has_room
returns-then-has_room g c =
    (c.index-members-who.result, at_read c.args.members.now c.loop-who.who c.index-members-who.result (omega (arith, c.loop-who-test.true)) c.index-members-who.is, c.has_room.ensures c.if-has_room.true)
