use Rattle.std.proofs.Common.{[], ◌∷◌, ◌++◌, map, length, sym, ap, subst, ◌∙◌, append_assoc, arith}
use Rattle.std.specs.Vec.Iter.{into_iter_items}
use Rattle.preload.specs.Teams.{AreMembers, AreIn}
use Rattle.preload.proofs.Teams.{back-pushed}
use Rattle.preload.proofs.team.end_members.Goals as goal

pub loop-member-preserved : goal.loop-member-preserved
loop-member-preserved g c =
    let i = c.loop-member.invariant in
    let step = c.in-Some.ensures.steps.0 in
    let members = subst (AreMembers g.F.Outside) step i.members in
    let folder = subst (AreIn c.args.dir.now) step i.folder in
    record {
      items = append_assoc c.loop-member.yielded (c.in-Some.member ∷ []) (into_iter_items c.next.new.self) ∙ (ap (λ ms. c.loop-member.yielded ++ ms) (sym step) ∙ i.items);
      done = back-pushed g.F.Outside c.args.dir.now c.loop-member.yielded c.loop-member.helped.items _ c.loop-member.back.items _ c.in-Some.member _ _ c.push_reserved.ensures.items c.push_reserved-in-loop-member.ensures.items folder.0 c.end_one-helper.ensures.back c.end_one-helper.ensures.own i.done;
      members = members.1;
      folder = folder.1;
      room = omega (arith, c.push_reserved.ensures.len, c.push_reserved.ensures.capacity, i.room, ap length step);
      room_helped = omega (arith, c.push_reserved-in-loop-member.ensures.len, c.push_reserved-in-loop-member.ensures.capacity, i.room_helped, ap length step);
      count = omega (arith, c.push_reserved.ensures.len, i.count, ap length step);
      capacity = c.push_reserved.ensures.capacity ∙ i.capacity;
    }
