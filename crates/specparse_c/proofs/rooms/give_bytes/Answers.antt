use Rattle.std.proofs.Common.{inl, inr, refl}
use Rattle.specparse_c.proofs.rooms.give_bytes.Goals as goal

pub returns-then-lacks : goal.returns-then-lacks
returns-then-lacks c = (refl, inr (refl, c.if-lacks.true, refl))

pub fill-requires : goal.fill-requires
fill-requires c = c.if-lacks.false

pub returns : goal.returns
returns c = (refl, inl (refl, c.fill.ensures))
