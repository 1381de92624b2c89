use Rattle.std.proofs.Common.{rules}
use Rattle.two_copies.proofs.SidesKept.{records}
use Rattle.two_copies.proofs.rounds.note_epochs.Goals as goal

pub load-requires : goal.load-requires
load-requires g c = (search rules, search rules, records g.P.Protocol.holds _ _ _ _ _ c.loop-reader.invariant.1.0 c.loop-reader.invariant.1.1 (search rules))
