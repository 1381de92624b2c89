use Rattle.std.proofs.Common.{[], ◌∷◌, ◌++◌, length, sym, ap, ◌∙◌, append_assoc, arith}
use Rattle.std.specs.Vec.Iter.{into_iter_items}
use Rattle.preload.proofs.Teams.{shared_one}
use Rattle.preload.proofs.team.share_out.Goals as goal

pub loop-helper-preserved : goal.loop-helper-preserved
loop-helper-preserved g c =
    let i = c.loop-helper.invariant in
    let step = c.in-Some.ensures.steps.0 in
    record {
      items = append_assoc c.loop-helper.yielded (c.in-Some.helper ∷ []) (into_iter_items c.next.new.self) ∙ (ap (λ hs. c.loop-helper.yielded ++ hs) (sym step) ∙ i.items);
      shared = shared_one g.F.Outside c.args.dir.now c.args.most c.in-Some.helper c.loop-helper.members.items c.place_helper.new.members.items c.loop-helper.rest.items c.place_helper.new.rest.items c.loop-helper.yielded c.place_helper.ensures.placed i.shared;
      room = omega (arith, c.place_helper.ensures.room.0, c.place_helper.ensures.few.0, i.room, ap length step);
      room_rest = omega (arith, c.place_helper.ensures.room.1, c.place_helper.ensures.few.1, i.room_rest, ap length step);
    }
