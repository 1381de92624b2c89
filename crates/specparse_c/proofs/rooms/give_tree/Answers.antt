use Rattle.std.proofs.Common.{inl, inr, length, refl}
use Rattle.specparse_c.proofs.Laying.{rooms-fit, rooms-lack}
use Rattle.specparse_c.proofs.rooms.give_tree.Goals as goal

pub returns-then-lacks : goal.returns-then-lacks
returns-then-lacks c = (
  c.sizes_of-needed.ensures,
  inr (
    refl,
    rooms-lack c.sizes_of-needed.result c.args.nodes.now c.args.attributes.now c.args.text.now c.lacks.result c.lacks.ensures c.if-lacks.true,
    record { nodes = refl; attributes = refl; text = refl },
  ),
)

pub lay-requires : goal.lay-requires
lay-requires c =
    let fit = rooms-fit c.args.tree.now c.sizes_of-needed.result (length c.args.nodes.now) (length c.args.attributes.now) (length c.args.text.now) c.lacks.result c.sizes_of-needed.ensures c.lacks.ensures
    c.if-lacks.false in
    record { nodes = fit.0; attributes = fit.1.0; text = fit.1.1 }

pub returns : goal.returns
returns c = (c.sizes_of-needed.ensures, inl (record { status = refl; nodes = c.lay.ensures.nodes; attributes = c.lay.ensures.attributes; text = c.lay.ensures.text }))
