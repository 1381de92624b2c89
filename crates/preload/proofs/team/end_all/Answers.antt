use Rattle.std.proofs.Common.{map, length, ap, ◌∙◌, arith}
use Rattle.preload.proofs.Teams.{all_helped, all_own, back_count, names_back, given_back}
use Rattle.preload.proofs.team.end_all.Goals as goal

pub end_members-requires-clause-room : goal.end_members-requires-clause-room
end_members-requires-clause-room g c = omega (arith, c.requires.room, c.args.back.now.ok.0 ∙ ap length c.requires.none.0)

pub end_members-requires-clause-room_helped : goal.end_members-requires-clause-room_helped
end_members-requires-clause-room_helped g c = omega (arith, c.requires.room_helped, c.args.helped.now.ok.0 ∙ ap length c.requires.none.1)

pub put_back-requires : goal.put_back-requires
put_back-requires g c = omega (arith, c.requires.room, c.end_members.ensures.count, c.end_members.ensures.capacity, c.args.back.now.ok.0 ∙ ap length c.requires.none.0)

pub returns-clause-back : goal.returns-clause-back
returns-clause-back g c = all_helped g.F.Outside c.args.dir.now c.args.members.items c.end_members.new.helped.items c.end_members.new.back.items c.put_back.new.back.items c.args.rest.items c.end_members.ensures.back c.put_back.ensures

pub returns-clause-given : goal.returns-clause-given
returns-clause-given g c = all_own g.F.Outside c.args.dir.now c.args.members.items c.end_members.new.helped.items c.end_members.new.back.items c.put_back.new.back.items c.args.rest.items c.end_members.ensures.back c.put_back.ensures c.requires.folder

pub returns-clause-used : goal.returns-clause-used
returns-clause-used g c = back_count g.F.Outside c.args.dir.now c.args.members.items c.end_members.new.helped.items (map g.F.Outside.seen c.end_members.new.back.items) c.end_members.ensures.back

pub returns-clause-names : goal.returns-clause-names
returns-clause-names g c = names_back g.F.Outside c.args.dir.now c.args.members.items c.end_members.new.helped.items (map g.F.Outside.seen c.end_members.new.back.items) c.end_members.ensures.back

pub returns-clause-through : goal.returns-clause-through
returns-clause-through g c = given_back g.F.Outside c.args.dir.now c.args.members.items c.end_members.new.helped.items (map g.F.Outside.seen c.end_members.new.back.items) c.end_members.ensures.back
