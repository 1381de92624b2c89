use Rattle.std.proofs.Common.{refl, arith}
use Rattle.preload.specs.Teams.{to_member, to_rest}
use Rattle.preload.proofs.team.place_helper.Goals as goal

pub returns-then-is_used-clause-placed : goal.returns-then-is_used-clause-placed
returns-then-is_used-clause-placed g c =
    to_member c.member_of.result (grind (arith, c.if-is_used.true, c.args.members.now.ok.0)) c.member_of.ensures.member c.member_of.ensures.folder c.member_of.ensures.was c.member_of.ensures.names c.member_of.ensures.given c.push_reserved.ensures.items refl

pub returns-else-is_used-clause-placed : goal.returns-else-is_used-clause-placed
returns-else-is_used-clause-placed g c = to_rest (grind (arith, c.if-is_used.false, c.args.members.now.ok.0)) refl c.push_reserved-else-is_used.ensures.items
