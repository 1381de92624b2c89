use Rattle.std.proofs.Common.{[], ◌∷◌, ◌++◌, length, sym, ap, ◌∙◌, append_assoc, arith}
use Rattle.std.specs.Vec.Iter.{into_iter_items}
use Rattle.preload.proofs.team.put_back.Goals as goal

pub loop-unused-preserved : goal.loop-unused-preserved
loop-unused-preserved g c =
    let i = c.loop-unused.invariant in
    let step = c.in-Some.ensures.steps.0 in
    record {
      items = append_assoc c.loop-unused.yielded (c.in-Some.unused ∷ []) (into_iter_items c.next.new.self) ∙ (ap (λ us. c.loop-unused.yielded ++ us) (sym step) ∙ i.items);
      back = c.push_reserved.ensures.items ∙ (ap (λ l. l ++ c.in-Some.unused ∷ []) i.back ∙ append_assoc c.args.back.now.items c.loop-unused.yielded (c.in-Some.unused ∷ []));
      room = omega (arith, c.push_reserved.ensures.len, c.push_reserved.ensures.capacity, i.room, ap length step);
    }
